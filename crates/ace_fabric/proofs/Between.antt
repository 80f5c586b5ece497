-- Events that come one after the other: the trace with the next of them, for which an engine may stand, and that the next is none of some kind.
use Rattle.std.proofs.Common.{◌≡◌, ℕ, ◌+◌, Bool, true, false, List, ◌∷◌, take, slice_get, Some, subst, ap, ◌∙◌}
use Rattle.std.proofs.lemmas.Option.{get_or_from_slice_get, slice_get_within}
use Rattle.ace_event.specs.declared.event.Event.{Event}
use Rattle.ace_model.specs.Plans.{Plan}
use Rattle.ace_model.specs.Trace.{Trace}
use Rattle.ace_runs.specs.Bursts.{onto}
use Rattle.ace_engine.specs.Engines.{IsLegal}
use Rattle.ace_engine.specs.Heard.{none_passes}
use Rattle.ace_engine.proofs.Heard.{legal-next, none-next, onto-next}

pub onto-at : (es : List Event) (i : ℕ) (e : Event) (past : Trace) → slice_get es i ≡ Some e → onto (take (i + 1) es) past ≡ e ∷ onto (take i es) past
onto-at es i e past at =
    onto-next es i e past (slice_get_within es i e at) ∙ ap (λ (f : Event). f ∷ onto (take i es) past) (get_or_from_slice_get es i e e at)

pub legal-at : (plan : Plan) (es : List Event) (i : ℕ) (e : Event) (past : Trace) → slice_get es i ≡ Some e → IsLegal plan (onto es past) → IsLegal plan (e ∷ onto (take i es) past)
legal-at plan es i e past at legal =
    subst (λ (f : Event). IsLegal plan (f ∷ onto (take i es) past)) (get_or_from_slice_get es i e e at) (legal-next plan es i e past (slice_get_within es i e at) legal)

pub none-at : (test : Trace → Event → Bool) (es : List Event) (i : ℕ) (e : Event) (past : Trace) → slice_get es i ≡ Some e → none_passes test past es ≡ true → test (onto (take i es) past) e ≡ false
none-at test es i e past at none =
    subst (λ (f : Event). test (onto (take i es) past) f ≡ false) (get_or_from_slice_get es i e e at) (none-next test es i e past (slice_get_within es i e at) none)
