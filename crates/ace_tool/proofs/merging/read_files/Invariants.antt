use Rattle.std.proofs.Common.{string_bytes, take}
use Rattle.std.specs.List.{AllZip}
use Rattle.ace_tool.specs.Held.{told_of}
use Rattle.ace_tool.specs.ListTexts.{IsWhole}
use Rattle.ace_tool.proofs.merging.read_files.Given as goal

-- those so far
abbrev pub invariant-loop-place : goal.invariant-loop-place
invariant-loop-place g l =
    AllZip (λ name text. IsWhole (told_of (g.F.Folder.holds l.files (string_bytes name))) (string_bytes text)) (take l.place l.words) l.texts.items
