-- A D: what it asks of its line, and what it leaves.
use Rattle.std.proofs.Common.{◌≡◌, ◌<◌, ◌-◌, ◌^◌, ℕ, Bool, true, false, not, ◌&&◌, ◌||◌, ◌==◌, List, ◌∷◌, length, slice_get, slice_set, Option, Some, None, is_some, refl, ap, ◌∙◌}
use Rattle.ace_lineck.proofs.Terms.{has_outstanding_on, state_of, merged, Line, least_broken, D, Header, Trace, full_line, is_some_and, is_unique, k32, Recording, own_on, target_of, Progress, Target, LineCheck, Holder, LineRecord, HoldersStand, IsHoldersStep, Stands, MayApply, place_on, record_of, state_at}
use Rattle.ace_lineck.specs.Holders.{awaits_store}
use Rattle.ace_lineck.proofs.HolderSteps.{d-stores, holder-step, holders-hear}
use Rattle.ace_lineck.proofs.WritesAndLoads.{state-on}
use Rattle.ace_lineck.proofs.RuleLaws.{own-some, own-wants}
use Rattle.ace_lineck.proofs.Heard.{may-hear}

-- a store in the state of its port, by the port's own transaction on the line
abbrev pub may_store_by : Bool → ℕ → Bool → Option Progress → Bool
may_store_by held strobe b own = (held && not (is_some own)) || (is_some_and own (λ y. awaits_store y && not y.stored) && not b && (strobe == full_line))

pub alone-may : (held : Bool) (strobe : ℕ) (b : Bool) → held ≡ may_store_by held strobe b None
alone-may true strobe b = refl
alone-may false strobe b = refl

pub own-may : (held : Bool) (strobe : ℕ) (b : Bool) (y : Progress) → ((awaits_store y && not y.stored) && not b && (strobe == full_line)) ≡ may_store_by held strobe b (Some y)
own-may true strobe b y = refl
own-may false strobe b y = refl

-- of a D K32
pub store-law : (s : LineCheck) (r : Recording) (p addr strobe : ℕ) (b : Bool) (line : Line) (x : LineRecord) (own : Option Progress) → Stands s r
    → own ≡ own_on r.header r.past p (Some addr) → x ≡ record_of s addr
    → may_store_by (is_unique (state_at x.states p)) strobe b own ≡ k32 r.header r.past (D p addr strobe b line)
store-law s r p addr strobe b line x own st is at =
    ap (λ v. may_store_by (is_unique v) strobe b own) (state-on s r p addr x st at)
    ∙ ap (λ v. (is_unique (state_of r.header r.past p addr) && not v) || (is_some_and own (λ y. awaits_store y && not y.stored) && not b && (strobe == full_line)))
    (own-some r.header r.past p addr own is st.accepted)
    ∙ ap (λ v. (is_unique (state_of r.header r.past p addr) && not (has_outstanding_on r.header r.past p addr)) || (v && not b && (strobe == full_line)))
    (own-wants r.header r.past p addr own is st.accepted)

-- what it leaves of the data of its port
pub stored-holders : (h : Header) (past : Trace) (l p addr strobe : ℕ) (b : Bool) (line : Line) (t : Target) (xs : List Holder) (x : Holder)
    → IsHoldersStep h past l (D p addr strobe b line) t None xs → slice_get xs p ≡ Some x → p < length xs
    → HoldersStand (D p addr strobe b line ∷ past) l (slice_set xs p (record x { copy = merged x.copy strobe line }))
stored-holders h past l p addr strobe b line t xs x s at low =
    let e = D p addr strobe b line in
    holders-hear h past l e t None xs p (record x { copy = merged x.copy strobe line }) s refl low
    (d-stores h past p l t None x p addr strobe b line (holder-step h past l e t None xs p x s refl at))

-- it may be taken
pub store-may : (s : LineCheck) (r : Recording) (p addr strobe : ℕ) (b : Bool) (line : Line) (place : Option ℕ) → Stands s r → place ≡ place_on s (Some addr)
    → least_broken r.header r.past (D p addr strobe b line) ≡ None → length r.past < 2 ^ 64 - 1
    → MayApply s r (D p addr strobe b line) (target_of r.header r.past (D p addr strobe b line)) place
store-may s r p addr strobe b line place st at fine few = may-hear s r (D p addr strobe b line) place refl st at fine few
