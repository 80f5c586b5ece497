use Rattle.std.proofs.Common.{refl}
use Rattle.ace_explanation.proofs.Ends.{no_header_right}
use Rattle.ace_explanation.proofs.follow.explanation_of.Goals as goal
use Rattle.ace_io.specs.Reader.{waiting}
use Rattle.ace_verdict.proofs.ProgressLemmas.{stands_at_start}

pub returns-in-Ok-with_lines-clause-right : goal.returns-in-Ok-with_lines-clause-right
returns-in-Ok-with_lines-clause-right g c =
    let e = c.in-Ok.ensures in
    c.follow-explanation.ensures.right c.args.limits (waiting g.S.Source.left c.args.lines.now) refl (c.in-Ok-with_lines.ensures.stands, c.new-loads.ensures, c.new-journal.ensures c.in-Ok.header, c.new-since.ensures c.in-Ok.header)
    (stands_at_start _ _ _ c.in-Ok.header e.readable e.header)

pub returns-in-Ok-with_lines-clause-line : goal.returns-in-Ok-with_lines-clause-line
returns-in-Ok-with_lines-clause-line g c =
    c.follow-explanation.ensures.line c.args.limits refl (c.in-Ok-with_lines.ensures.stands, c.new-loads.ensures, c.new-journal.ensures c.in-Ok.header, c.new-since.ensures c.in-Ok.header) c.in-Ok.ensures.readable

pub returns-in-Err-clause-right : goal.returns-in-Err-clause-right
returns-in-Err-clause-right g c =
    no_header_right c.args.limits c.in-Err.none.error c.unreadable.result c.in-Err.none.version _ _ _ _ _ c.in-Err.ensures.none c.unreadable.ensures.verdict
    c.in-Err.ensures.shown c.unreadable.ensures.place
