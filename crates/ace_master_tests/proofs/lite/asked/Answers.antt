use Rattle.std.proofs.Common.{◌≡◌, false, List, [], ◌∷◌, length, Some, slice_get, ap, subst, arith}
use Rattle.ace_event.specs.declared.event.Event.{Event}
use Rattle.ace_event.specs.declared.event.Event.TheVariants.{Ar}
use Rattle.ace_model.specs.declared.plans.Op.TheVariants.{Cs}
use Rattle.ace_model.proofs.General.Options.{Some-injective}
use Rattle.ace_runs.specs.Bursts.{onto}
use Rattle.ace_master.specs.Lite.{LiteStands}
use Rattle.ace_master_tests.specs.LiteWorked.{asked_events, plan_of}
use Rattle.ace_master_tests.proofs.lite.asked.Goals as goal

only-event : (xs : List Event) (x : Event) → length xs ≡ 1 → slice_get xs 0 ≡ Some x → xs ≡ x ∷ []
only-event [] x one first = absurd (omega (arith, one))
only-event (y ∷ []) x one first = ap (λ e. e ∷ []) (Some-injective y x first)
only-event (y ∷ z ∷ zs) x one first = absurd (omega (arith, one))

pub returns-then-asks_for_clean-clause-stands : goal.returns-then-asks_for_clean-clause-stands
returns-then-asks_for_clean-clause-stands c =
    let one = c.len.ensures.value in
    let counted = c.if-len-eq1.true in
    let same : c.get.result ≡ Ar 0 0 64 8 1 0 false = c.asks_for_clean.ensures c.if-asks_for_clean.true in
    let burst : c.in_ok-burst.burst ≡ asked_events =
    only-event c.in_ok-burst.burst (Ar 0 0 64 8 1 0 false) (omega (arith, one, counted)) (subst (λ e. slice_get c.in_ok-burst.burst 0 ≡ Some e) same c.get.ensures) in
    subst (λ es. LiteStands c.step.new.master (plan_of (Cs 64)) (onto es [])) burst (c.in_ok-burst.ensures.stands (Cs 64) [] c.in_ok-master.ensures.stands)
