use Rattle.std.proofs.Common.{map, string_bytes, subst}
use Rattle.ace_parts.specs.Merging.{ArePartsOf}
use Rattle.ace_tool.specs.Held.{told_of}
use Rattle.ace_tool.specs.ListTexts.{IsWhole}
use Rattle.ace_tool.proofs.MergeSteps.{zip_bytes}
use Rattle.ace_tool.proofs.merging.merge_files.Goals as goal

pub returns-in-Ok : goal.returns-in-Ok
returns-in-Ok g c = (
  map string_bytes c.in_ok-texts.texts.items,
  zip_bytes (λ name text. IsWhole (told_of (g.F.Folder.holds c.args.files.now name)) text) c.args.words.now c.in_ok-texts.texts.items c.in_ok-texts.ensures,
  subst (λ texts. ArePartsOf (map string_bytes texts) c.in-Ok.entries.items) c.as_slice.ensures.value c.in-Ok.ensures,
)
