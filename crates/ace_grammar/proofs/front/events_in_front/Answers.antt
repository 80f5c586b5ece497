use Rattle.std.proofs.Common.{◌≡◌, [], ◌∷◌, ◌∙◌, arith}
use Rattle.ace_grammar.proofs.Fronts.AllHanded.{none_stood, one_more_stood, rest_within, stood_before}
use Rattle.ace_grammar.proofs.front.events_in_front.Goals.{else-events-test, then-events-test+in_default}
use Rattle.ace_grammar.proofs.front.events_in_front.Goals as goal

pub events-init : goal.events-init
events-init g c = ([], omega arith, none_stood _ _ _)

pub events-preserved : goal.events-preserved
events-preserved g c =
    let before = c.events.invariant in
    let taken = c.in-Some.ensures.taken in (
      taken.0 ∷ before.0,
      omega (arith, before.1, c.events-test.true),
      one_more_stood _ _ _ before.0 _ _ _ _ _ before.2 taken.1 taken.2,
    )

pub overflow_add-rest : goal.overflow_add-rest
overflow_add-rest g c = omega (arith, c.well_formed.0.0, rest_within _ _ _ _ _ _ c.events.invariant.2, c.in-Some.ensures.taken.1.within)

pub overflow_sub-result : goal.overflow_sub-result
overflow_sub-result g c = rest_within _ _ _ _ _ _ c.events.invariant.2

pub overflow_sub-result-2 : goal.overflow_sub-result-2
overflow_sub-result-2 g c = omega (arith, c.events.invariant.1)

-- what wasn't taken left the taker as it was
same_taker : (g : _) (c : goal.Left-events g) → c.events-test.taker ≡ c.events.taker
same_taker g c = elim c.events-test.branch [ else-events-test w ↦ w.taker-is | then-events-test+in_default w ↦ w.taker-is ∙ w.event_in_front.ensures.stays w.in_default.is ]

pub returns-clause-handed : goal.returns-clause-handed
returns-clause-handed g c =
    let before = c.events.invariant in (before.0, omega (arith, before.1), stood_before _ _ _ _ _ _ _ before.2 (same_taker g c))
