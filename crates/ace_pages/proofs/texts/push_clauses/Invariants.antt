use Rattle.std.proofs.Common.{◌≡◌, ◌++◌, flat_map, drop}
use Rattle.ace_pages.specs.Pages.{clause_part, letters}
use Rattle.ace_pages.proofs.texts.push_clauses.Given as goal

-- the lines so far, and those of the other clauses
abbrev pub invariant-loop-letter : goal.invariant-loop-letter
invariant-loop-letter l =
    l.text.items ++ flat_map (clause_part l.rule) (drop l.letter-index l.letter-items)
    ≡ l.initial.text.items ++ flat_map (clause_part l.rule) letters
