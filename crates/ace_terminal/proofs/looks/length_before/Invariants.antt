use Rattle.std.proofs.Common.{◌≡◌, ◌+◌, drop}
use Rattle.ace_terminal.specs.Looks.{length_before}
use Rattle.ace_terminal.proofs.looks.length_before.Given as goal

-- the word comes nowhere before this place
abbrev pub invariant-loop-place : goal.invariant-loop-place
invariant-loop-place l = length_before l.word l.text ≡ l.place + length_before l.word (drop l.place l.text)
