use Rattle.std.proofs.Common.{rules, map, string_bytes, inr}
use Rattle.std.proofs.KnownBytes.{Appends-nil}
use Rattle.ace_tool.specs.Told.{wish_of}
use Rattle.ace_tool.proofs.Concluding.{concluded}
use Rattle.ace_tool.proofs.Words.{no_check_asked, no_explain_asked}
use Rattle.ace_tool.proofs.top.acetool.Goals as goal

pub returns-in-Ok-Some-clause-untouched : goal.returns-in-Ok-Some-clause-untouched
returns-in-Ok-Some-clause-untouched g c no_check no_explain =
    let words = map string_bytes c.args.words.now in
    let wish = wish_of c.in-Ok-Some.request in
    c.answer.ensures.untouched (no_check_asked words wish (search rules) no_check) (no_explain_asked words wish (search rules) no_explain)

pub returns-in-Err-clause-answer : goal.returns-in-Err-clause-answer
returns-in-Err-clause-answer g c ne =
    inr (inr (c.note-in-Err.ensures.status ne, Appends-nil _, c.note-in-Err.ensures.given ne))

pub returns-in-Ok-Some-clause-answer : goal.returns-in-Ok-Some-clause-answer
returns-in-Ok-Some-clause-answer g c =
    concluded g.E.Sink.held c.args.notes.now c.conclude.new.notes (g.F.Folder.holds c.args.files.now) (map string_bytes c.args.words.now)
    (wish_of c.in-Ok-Some.request) (g.I.Source.left c.args.input.now) (g.I.Source.left c.answer.new.input) (g.K.Sink.held c.args.out.now)
    (g.K.Sink.held c.answer.new.out) c.answer.result c.conclude.result (search rules) c.answer.ensures.done c.conclude.ensures.status
    c.conclude.ensures.silent c.conclude.ensures.failed
