use Rattle.std.proofs.Common.{◌+◌, rules, string_bytes, subst, take}
use Rattle.std.proofs.lemmas.List.Elements.{all_zip_more}
use Rattle.std.specs.List.{AllZip}
use Rattle.ace_tool.specs.Held.{told_of}
use Rattle.ace_tool.specs.ListTexts.{IsWhole}
use Rattle.ace_tool.proofs.merging.read_files.Goals as goal

pub loop-place-preserved : goal.loop-place-preserved
loop-place-preserved g c =
    subst (λ items. AllZip (λ name text. IsWhole (told_of (g.F.Folder.holds c.args.files.now (string_bytes name))) (string_bytes text))
    (take (c.loop-place.place + 1) c.args.words.now) items) (search rules)
    (all_zip_more (λ name text. IsWhole (told_of (g.F.Folder.holds c.args.files.now (string_bytes name))) (string_bytes text)) c.args.words.now
    c.loop-place.texts.items c.loop-place.place c.index-words-place.result c.in-Ok.text c.loop-place-test.true (search rules) c.loop-place.invariant
    (subst (λ name. IsWhole (told_of (g.F.Folder.holds c.args.files.now name)) (string_bytes c.in-Ok.text)) c.as_str.ensures.value c.in-Ok.ensures))
