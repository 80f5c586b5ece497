use Rattle.std.proofs.Common.{◌≡◌, drop}
use Rattle.ace_pages.specs.Named.{letter_among}
use Rattle.ace_pages.specs.Pages.{letters}
use Rattle.ace_pages.proofs.names.letter_of.Given as goal

-- no letter so far is that of the clause
abbrev pub invariant-loop-letter : goal.invariant-loop-letter
invariant-loop-letter l =
    letter_among l.word l.rule (drop l.letter-index l.letter-items) ≡ letter_among l.word l.rule letters
