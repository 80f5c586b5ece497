use Rattle.std.proofs.Common.{◌≡◌, ◌<◌, ◌≤◌, ℕ, bytes_eq, length, true}
use Rattle.std.specs.List.{list_any}
use Rattle.ace_parts.specs.Merging.{part_text, texts_of}
use Rattle.ace_parts.proofs.merging.first_unfit.Given as goal

-- the parts so far are there
abbrev pub invariant-loop-place : goal.invariant-loop-place
invariant-loop-place l = (part : ℕ) → 0 < part → part ≤ l.place
    → list_any (bytes_eq (part_text part (length l.texts) l.entries)) (texts_of l.texts) ≡ true
