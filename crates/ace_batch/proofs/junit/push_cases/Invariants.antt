use Rattle.std.proofs.Common.{◌≡◌, ◌++◌, drop, flat_map}
use Rattle.ace_batch.specs.Junit.{case_text}
use Rattle.ace_batch.proofs.junit.push_cases.Given as goal

-- what was added, and the cases of the other traces
abbrev pub invariant-loop-entry : goal.invariant-loop-entry
invariant-loop-entry l =
    l.text.items ++ flat_map case_text (drop l.entry-index l.entries)
    ≡ l.initial.text.items ++ flat_map case_text l.entries
