-- The events of step 1, of step 4 and of step 14 are those of the port of the step.
use Rattle.std.proofs.Common.{◌≡◌, ℕ, Bool, true, ◌&&◌, ◌==◌, List, [], ◌∷◌, Option, refl, sym}
use Rattle.std.specs.List.{list_all}
use Rattle.std.proofs.lemmas.Bool.{and_parts, and_from, eq-eqb, eqb-true}
use Rattle.ace_codes.specs.Responses.{transfers_data}
use Rattle.ace_event.specs.declared.event.Event.{Event}
use Rattle.ace_event.specs.declared.event.Event.TheVariants.{Cr}
use Rattle.ace_event.specs.declared.header.Header.{Header}
use Rattle.ace_model.specs.declared.plans.Op.{Op}
use Rattle.ace_model.specs.declared.snoops.Snoop.{Snoop}
use Rattle.ace_model.specs.Snoops.{answered, snoops_a_line}
use Rattle.ace_model.specs.Trace.{Trace, is_some_and}
use Rattle.ace_model.proofs.General.Options.{is_some_and-is}
use Rattle.ace_runs.specs.MasterSteps.{acknowledges, after_answer, answers_snoop, goes_on}
use Rattle.ace_runs.specs.Requests.{Request, bursts_of}
use Rattle.ace_runs.specs.Retiring.{tells_completion}
use Rattle.ace_runs.specs.SameEvents.{same_burst}
use Rattle.ace_runs.specs.Segments.{is_at_port}
use Rattle.ace_runs.proofs.NeverStuck.Steps.SameBursts.{all-as}
use Rattle.ace_runs.proofs.NeverStuck.Steps.SameEvents.{TellsSame, is_lineless, tells-same}
use Rattle.ace_runs.proofs.NeverStuck.Steps.Lists.{all-if, all-implied}
use Rattle.ace_runs.proofs.NeverStuck.Steps.Asking.{goes-on-all, requests-all}
use Rattle.ace_runs.proofs.NeverStuck.Steps.Concluding.{Concludes, acknowledges-all}

-- ---- the same events ---------------------------------------------------------------------------------

pub same-port : (port : ℕ) → TellsSame (is_at_port port)
same-port port = tells-same (is_at_port port) (λ p c i line. refl) (λ p a s x line. refl) (λ a line. refl)

-- ---- what ends an operation --------------------------------------------------------------------------

-- the events of a burst are the port's
abbrev pub are_own : ℕ → List Event → Bool
are_own p burst = list_all (is_at_port p) burst

own : (p : ℕ) → (p == p) ≡ true
own p = eq-eqb p p refl

itself : (p : ℕ) → (p == p) && true ≡ true
itself p = and_from _ _ (own p) refl

own-concludes : (p : ℕ) → Concludes p (is_at_port p)
own-concludes p = record { reads = λ st. own p; writes = λ st. own p; loads = λ a w x word. own p; stores = λ a s x line. own p; retires = λ k res. own p }

-- ---- step 1 ------------------------------------------------------------------------------------------

after-own : (past : Trace) (p : ℕ) (s : Snoop) (resp : ℕ) → are_own p (after_answer past p s resp) ≡ true
after-own past p s resp =
    all-if (is_at_port p) (tells_completion s) _ _ (itself p) (all-if (is_at_port p) (snoops_a_line s.snoop && transfers_data resp) _ [] four refl)
  where
    four : ((p == p) && ((p == p) && ((p == p) && ((p == p) && true)))) ≡ true
    four = and_from _ _ (own p) (and_from _ _ (own p) (and_from _ _ (own p) (and_from _ _ (own p) refl)))

pub answers-own : (h : Header) (past : Trace) (p : ℕ) (burst : List Event) → answers_snoop h past p burst ≡ true → are_own p burst ≡ true
answers-own h past p (Cr q resp st ∷ rest) s =
    let parts = and_parts (p == q) (is_some_and (answered past p) (λ s. same_burst (after_answer past p s resp) rest)) s in
    let a = is_some_and-is (answered past p) (λ s. same_burst (after_answer past p s resp) rest) parts.1 in
    and_from _ _ (eq-eqb q p (sym (eqb-true p q parts.0))) (all-as (is_at_port p) (same-port p) (after_answer past p a.0 resp) rest a.2 (after-own past p a.0 resp))
answers-own h past p _ s = cc

-- ---- step 4 ------------------------------------------------------------------------------------------

pub acknowledges-own : (next : Option Op) (h : Header) (past : Trace) (p : ℕ) (burst : List Event) → acknowledges next h past p burst ≡ true → are_own p burst ≡ true
acknowledges-own next h past p burst s = acknowledges-all p (is_at_port p) (own-concludes p) (same-port p) next h past burst s

-- ---- step 14 -----------------------------------------------------------------------------------------

-- an event of the port by which it asks: it carries no line
abbrev pub is_asking : ℕ → Event → Bool
is_asking p e = is_lineless e && is_at_port p e

abbrev pub are_asking : ℕ → List Event → Bool
are_asking p burst = list_all (is_asking p) burst

pub requests-asking : (h : Header) (past : Trace) (p : ℕ) (r : Request) (ways : ℕ) → list_all (are_asking p) (bursts_of ways h past p r) ≡ true
requests-asking h past p r ways =
    requests-all p (is_asking p) (record { reads = λ i a code dom lock. own p; writes = λ i a code dom. own p; drops = λ a st. own p }) h past r ways
    (λ bar i is. and_from _ _ (own p) (itself p))

pub asking-lineless : (p : ℕ) (burst : List Event) → are_asking p burst ≡ true → list_all is_lineless burst ≡ true
asking-lineless p burst m = all-implied (is_asking p) is_lineless (λ e asks. (and_parts (is_lineless e) (is_at_port p e) asks).0) burst m

pub goes-on-own : (ways : ℕ) (next : Option Op) (h : Header) (past : Trace) (p : ℕ) (burst : List Event) → goes_on ways next h past p burst ≡ true → are_own p burst ≡ true
goes-on-own ways next h past p burst s =
    goes-on-all p (is_at_port p) (record { reads = λ i a code dom lock. own p; writes = λ i a code dom. own p; drops = λ a st. own p }) (own-concludes p) (same-port p)
    (λ r bar i is. and_from _ _ (own p) (itself p)) ways next h past burst s
