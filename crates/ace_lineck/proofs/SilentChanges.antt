-- What an S asks of its line, and what it leaves of it.
use Rattle.std.proofs.Common.{◌≡◌, ◌<◌, ◌-◌, ◌^◌, ℕ, Bool, not, ◌&&◌, length, Option, Some, None, refl, ap, ◌∙◌}
use Rattle.ace_lineck.proofs.Terms.{least_broken, Header, Trace, S, LineState, has_update, is_invalid, is_silent_move, k29, state_of, Recording, target_of, LineCheck, MayApply, Stands, place_on}
use Rattle.ace_lineck.proofs.Heard.{may-hear}

-- K29, which is all that the share asks of an S
pub change-law : (h : Header) (past : Trace) (p addr : ℕ) (st held : LineState) (drops : Bool) → held ≡ state_of h past p addr → drops ≡ (is_invalid st && has_update h past p addr)
    → (is_silent_move held st && not drops) ≡ k29 h past (S p addr st)
change-law h past p addr st held drops is drop =
    ap (λ v. is_silent_move v st && not drops) is ∙ ap (λ b. is_silent_move (state_of h past p addr) st && not b) drop

-- an S that breaks no rule may be heard
pub may-hear_change : (s : LineCheck) (r : Recording) (p addr : ℕ) (st : LineState) (place : Option ℕ) → Stands s r → place ≡ place_on s (Some addr)
    → least_broken r.header r.past (S p addr st) ≡ None → length r.past < 2 ^ 64 - 1 → MayApply s r (S p addr st) (target_of r.header r.past (S p addr st)) place
may-hear_change s r p addr st place stands at fine few = may-hear s r (S p addr st) place refl stands at fine few
