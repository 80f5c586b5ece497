use Rattle.std.proofs.Common.{◌≡◌, bytes_eq, drop}
use Rattle.std.specs.List.{list_any}
use Rattle.ace_parts.specs.Merging.{texts_of}
use Rattle.ace_parts.proofs.merging.has_text.Given as goal

-- whether it is among the others
abbrev pub invariant-loop-other : goal.invariant-loop-other
invariant-loop-other l =
    list_any (bytes_eq l.text) (texts_of (drop l.other-index l.texts)) ≡ list_any (bytes_eq l.text) (texts_of l.texts)
