use Rattle.std.proofs.Common.{◌≡◌, length, take}
use Rattle.ace_journal.proofs.journal.copied.Given as goal

-- so many were copied
abbrev pub invariant-loop-place : goal.invariant-loop-place
invariant-loop-place l = record {
  len : length l.copy ≡ 16;
  so_far : take l.place l.copy ≡ take l.place l.rows.kept.items;
}
