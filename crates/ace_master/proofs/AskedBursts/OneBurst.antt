-- What a port asks by, among the bursts by which it may.
use Rattle.std.proofs.Common.{◌≡◌, List, [], ◌∷◌, Option, Some, None, Contains, refl, sym, subst, arith}
use Rattle.ace_event.specs.declared.event.Event.{Event}
use Rattle.ace_master.specs.declared.asking.Asking.{Asking}
use Rattle.ace_master.specs.Asking.{IsOneOf, events_of, only}

pub Contains-first : {A : Type 0} → (x : A) (xs : List A) → Contains (x ∷ xs) x
Contains-first x xs = (0, omega arith, refl)

-- the only one is one of them
pub only-one : (asking : Option Asking) (bursts : List (List Event)) → bursts ≡ only asking → IsOneOf asking bursts
only-one None bursts is = is
only-one (Some asking) bursts is = subst (λ bs. Contains bs (events_of asking)) (sym is) (Contains-first (events_of asking) [])
