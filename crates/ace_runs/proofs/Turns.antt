-- Runs as lists of turns: a step is enabled, a run goes on with a step, and a run is accepted.
use Rattle.std.proofs.Common.{◌≡◌, ℕ, Bool, true, false, ◌&&◌, nat_le, if◌then◌else◌, List, [], ◌∷◌, length, Option, Some, None, option_and_then, inl, inr, refl, subst}
use Rattle.std.specs.List.{list_any}
use Rattle.std.proofs.lemmas.Bool.{or_cases, or_left, or_right, and_parts}
use Rattle.ace_event.specs.declared.event.Event.{Event}
use Rattle.ace_model.specs.Trace.{Trace}
use Rattle.ace_model.specs.Plans.{Plan}
use Rattle.ace_model.specs.Accepted.{IsAccepted}
use Rattle.ace_runs.specs.Bursts.{onto, are_kept}
use Rattle.ace_runs.specs.Steps.{Turn, steps_of, is_sound, may_give, is_enabled, is_step, after_turn, run_of, AreSteps}
use Rattle.ace_runs.proofs.Accepting.{accepted-after}

any-first : {A : Type 0} (f g : A → Bool) (xs : List A) → list_any (λ x. f x && g x) xs ≡ true → list_any f xs ≡ true
any-first f g [] e = cc
any-first f g (x ∷ xs) e = elim (or_cases (f x && g x) (list_any (λ x. f x && g x) xs) e)
    [ inl b ↦ or_left (f x) (list_any f xs) (and_parts (f x) (g x) b).0 | inr r ↦ or_right (f x) (list_any f xs) (any-first f g xs r) ]

pub step-enabled : (plan : Plan) (past : Trace) (p : ℕ) (burst : List Event) → is_step plan past p burst ≡ true → is_enabled plan past p ≡ true
step-enabled plan past p burst s =
    let parts = and_parts (is_sound plan.header past burst) (list_any (may_give plan.header past p burst) (steps_of plan past p)) s in
    any-first (λ s. s.is_enabled plan.header past p) (λ s. s.gives plan.header past p burst) (steps_of plan past p) parts.1

pub steps-further : (plan : Plan) (past : Trace) (p : ℕ) (burst : List Event) → AreSteps plan past → is_step plan past p burst ≡ true → AreSteps plan (onto burst past)
steps-further plan past p burst (turns, e) s = (record { port = p; burst = burst } ∷ turns, rw e (rw s refl))

-- no event of a step breaks a rule
pub step-kept : (plan : Plan) (past : Trace) (p : ℕ) (burst : List Event) → is_step plan past p burst ≡ true → are_kept plan.header past burst ≡ true
step-kept plan past p burst s =
    let parts = and_parts (is_sound plan.header past burst) (list_any (may_give plan.header past p burst) (steps_of plan past p)) s in
    (and_parts (nat_le 1 (length burst) && nat_le (length burst) 16) (are_kept plan.header past burst) parts.0).1

-- ---- what each step keeps, a run has -----------------------------------------------------------------

-- the fact is kept by each step of the plan
abbrev pub IsKeptBySteps : Plan → (Trace → Type 0) → Type 0
IsKeptBySteps plan P = (past : Trace) (p : ℕ) (burst : List Event) → P past → is_step plan past p burst ≡ true → P (onto burst past)

after-if : (P : Trace → Type 0) (b : Bool) (later past : Trace) → (b ≡ true → P later) → (if b then Some later else None) ≡ Some past → P past
after-if P true later past holds e = let same : later ≡ past = cc in subst P same (holds refl)
after-if P false later past holds e = cc

after-option : (plan : Plan) (P : Trace → Type 0) → IsKeptBySteps plan P → (turn : Turn) (o : Option Trace) (past : Trace)
    → ((before : Trace) → o ≡ Some before → P before) → option_and_then (after_turn plan turn) o ≡ Some past → P past
after-option plan P keeps turn None past holds e = cc
after-option plan P keeps turn (Some before) past holds e =
    after-if P (is_step plan before turn.port turn.burst) (onto turn.burst before) past (keeps before turn.port turn.burst (holds before refl)) e

after-turns : (plan : Plan) (P : Trace → Type 0) → P [] → IsKeptBySteps plan P → (turns : List Turn) (past : Trace) → run_of plan turns ≡ Some past → P past
after-turns plan P start keeps [] past e = let same : [] ≡ past = cc in subst P same start
after-turns plan P start keeps (turn ∷ turns) past e =
    after-option plan P keeps turn (run_of plan turns) past (after-turns plan P start keeps turns) e

-- What holds of the empty trace, and is kept by each step, holds of each run.
pub of-each-run : (plan : Plan) (P : Trace → Type 0) → P [] → IsKeptBySteps plan P → (past : Trace) → AreSteps plan past → P past
of-each-run plan P start keeps past (turns, e) = after-turns plan P start keeps turns past e

pub steps-accepted : (plan : Plan) (past : Trace) → AreSteps plan past → IsAccepted plan.header past
steps-accepted plan past s =
    of-each-run plan (IsAccepted plan.header) tt
    (λ before p burst a step. accepted-after plan.header burst before a (step-kept plan before p burst step)) past s
