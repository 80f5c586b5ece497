-- The points of a trace, one after the other.
use Rattle.std.proofs.Common.{◌≡◌, ◌+◌, ℕ, [], ◌∷◌, Some, refl, sym, ap, ◌∙◌, arith, inl, inr, Result, Ok, Err, OnOk}
use Rattle.ace_model.proofs.Terms.{Ac, Event, Trace, at_point}
use Rattle.ace_portck.specs.declared.ports.PortCheck.{PortCheck}
use Rattle.ace_portck.specs.Stands.{HasRoom}
use Rattle.ace_model.specs.Trace.{event_at}
use Rattle.ace_model.proofs.Trace.Growth.{at_point-before, at_point-end}
use Rattle.ace_model.proofs.Trace.Places.{at_point-last, event_at-cases}

pub point-next : (past : Trace) (n : ℕ) (z : Event) → event_at past n ≡ Some z → at_point (n + 1) past ≡ z ∷ at_point n past
point-next [] n z there = cc
point-next (e ∷ past) n z there =
    elim (event_at-cases e past n z there) [
      | inl old ↦
          let low = old.1 in
          at_point-before e past (n + 1) (omega arith) ∙ point-next past n z old.0 ∙ ap (λ t. z ∷ t) (sym (at_point-before e past n (omega arith)))
      | inr new ↦
          let here = new.0 in
          at_point-end (e ∷ past) (n + 1) (omega arith) ∙ ap (λ v. v ∷ past) new.1 ∙ ap (λ t. z ∷ t) (sym (at_point-last e past n here))
    ]

pub point-start : (past : Trace) → at_point 0 past ≡ []
point-start [] = refl
point-start (e ∷ past) = at_point-before e past 0 (omega arith) ∙ point-start past

-- an event that is no snoop wants no room
pub roomy : (s : PortCheck) (e : Event) → ((p addr snoop : ℕ) → e ≡ Ac p addr snoop → ⊥) → HasRoom s e
roomy s (Ac p addr snoop) other = absurd (other p addr snoop refl)
roomy s e other = λ p k port there. tt

-- what holds after any call
pub always : {T E A : Type 0} (r : Result T E) → A → OnOk r A
always (Ok x) a = a
always (Err e) a = tt
