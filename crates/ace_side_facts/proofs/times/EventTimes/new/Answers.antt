use Rattle.std.proofs.lemmas.List.Sorted.{IsNonDecreasingBy-from_sort}
use Rattle.ace_side_facts.proofs.times.EventTimes.new.Goals as goal

pub invariant_of-result-clause-rise : goal.invariant_of-result-clause-rise
invariant_of-result-clause-rise c = IsNonDecreasingBy-from_sort (λ x. x) _ c.sort_unstable.ensures.sorted
