-- The steps of a master give events of its port, and none of the interconnect.
use Rattle.std.proofs.Common.{◌≡◌, ℕ, Bool, true, not, ◌&&◌, ◌==◌, List, [], ◌∷◌, length, Option, Some, None, refl, sym}
use Rattle.std.specs.List.{list_all}
use Rattle.std.proofs.lemmas.Bool.{and_from, and_parts, eq-eqb, eqb-true}
use Rattle.ace_codes.specs.Responses.{transfers_data}
use Rattle.ace_event.specs.declared.event.Event.{Event}
use Rattle.ace_event.specs.declared.event.Event.TheVariants.{Cr, W}
use Rattle.ace_event.specs.declared.event.Outcome.TheVariants.{Ok}
use Rattle.ace_event.specs.declared.header.Header.{Header}
use Rattle.ace_event.specs.declared.line.Line.{Line}
use Rattle.ace_model.specs.declared.plans.Op.{Op}
use Rattle.ace_model.specs.declared.snoops.Snoop.{Snoop}
use Rattle.ace_model.specs.Copies.{copy_of}
use Rattle.ace_model.specs.Snoops.{answered, snoops_a_line}
use Rattle.ace_model.specs.Trace.{Trace, is_some_and}
use Rattle.ace_runs.specs.Closing.{retirement}
use Rattle.ace_runs.specs.MasterSteps.{acknowledges, after_answer, answers_snoop, data_burst, goes_on, is_beat, sends}
use Rattle.ace_runs.specs.Retiring.{tells_completion}
use Rattle.ace_runs.specs.SameEvents.{same_burst}
use Rattle.ace_runs.specs.Segments.{is_at_port}
use Rattle.ace_runs.proofs.NeverStuck.Steps.Asking.{goes-on-all}
use Rattle.ace_runs.proofs.NeverStuck.Steps.Concluding.{Concludes, acknowledges-all}
use Rattle.ace_runs.proofs.NeverStuck.Steps.Lists.{all-if, all-implied}
use Rattle.ace_runs.proofs.NeverStuck.Steps.SameBursts.{all-as}
use Rattle.ace_runs.proofs.NeverStuck.Steps.SameEvents.{TellsSame, tells-same}
use Rattle.ace_engine.specs.Engines.{is_of_interconnect}

-- the event is one of the port's master
abbrev pub is_own : ℕ → Event → Bool
is_own p e = is_at_port p e && not (is_of_interconnect e)

same-own : (p : ℕ) → TellsSame (is_own p)
same-own p = tells-same (is_own p) (λ q c i line. refl) (λ q a s x line. refl) (λ a line. refl)

-- one that names the port
at-home : (p : ℕ) → ((p == p) && true) ≡ true
at-home p = and_from (p == p) true (eq-eqb p p refl) refl

at-port : (p q : ℕ) → (p == q) ≡ true → ((q == p) && true) ≡ true
at-port p q here = and_from (q == p) true (eq-eqb q p (sym (eqb-true p q here))) refl

concludes : (p : ℕ) → Concludes p (is_own p)
concludes p = record {
  reads = λ st. at-home p;
  writes = λ st. at-home p;
  loads = λ a w x word. at-home p;
  stores = λ a s x line. at-home p;
  retires = λ k res. at-home p;
}

-- ---- step 1 ------------------------------------------------------------------------------------------

beats-own : (p : ℕ) (line : Line) → list_all (is_own p) (data_burst p line) ≡ true
beats-own p line = and_from _ _ (at-home p) (and_from _ _ (at-home p) (and_from _ _ (at-home p) (and_from _ _ (at-home p) refl)))

after-own : (past : Trace) (p : ℕ) (s : Snoop) (resp : ℕ) → list_all (is_own p) (after_answer past p s resp) ≡ true
after-own past p s resp =
    all-if (is_own p) (tells_completion s) (retirement past p Ok) _ (and_from _ _ (at-home p) refl)
    (all-if (is_own p) (snoops_a_line s.snoop && transfers_data resp) (data_burst p (copy_of past p s.addr)) [] (beats-own p (copy_of past p s.addr)) refl)

rest-own : (past : Trace) (p resp : ℕ) (o : Option Snoop) (rest : List Event) → is_some_and o (λ s. same_burst (after_answer past p s resp) rest) ≡ true
    → list_all (is_own p) rest ≡ true
rest-own past p resp None rest s = cc
rest-own past p resp (Some a) rest s = all-as (is_own p) (same-own p) (after_answer past p a resp) rest s (after-own past p a resp)

pub answers-own : (h : Header) (past : Trace) (p : ℕ) (burst : List Event) → answers_snoop h past p burst ≡ true → list_all (is_own p) burst ≡ true
answers-own h past p (Cr q resp st ∷ rest) s =
    let parts = and_parts (p == q) (is_some_and (answered past p) (λ a. same_burst (after_answer past p a resp) rest)) s in
    and_from _ _ (at-port p q parts.0) (rest-own past p resp (answered past p) rest parts.1)
answers-own h past p _ s = cc

-- ---- step 2 ------------------------------------------------------------------------------------------

beat-own : (p : ℕ) (e : Event) → is_beat p e ≡ true → is_own p e ≡ true
beat-own p (W q strb last word) b = at-port p q b
beat-own p e b = cc

pub sends-own : (h : Header) (past : Trace) (p : ℕ) (burst : List Event) → sends h past p burst ≡ true → list_all (is_own p) burst ≡ true
sends-own h past p burst s = all-implied (is_beat p) (is_own p) (beat-own p) burst (and_parts (list_all (is_beat p) burst) (length burst == 4) s).0

-- ---- steps 4 and 14 ----------------------------------------------------------------------------------

pub acknowledges-own : (next : Option Op) (h : Header) (past : Trace) (p : ℕ) (burst : List Event) → acknowledges next h past p burst ≡ true → list_all (is_own p) burst ≡ true
acknowledges-own next h past p burst s = acknowledges-all p (is_own p) (concludes p) (same-own p) next h past burst s

pub goes-on-own : (ways : ℕ) (next : Option Op) (h : Header) (past : Trace) (p : ℕ) (burst : List Event) → goes_on ways next h past p burst ≡ true → list_all (is_own p) burst ≡ true
goes-on-own ways next h past p burst s =
    goes-on-all p (is_own p) (record { reads = λ i a code dom lock. at-home p; writes = λ i a code dom. at-home p; drops = λ a st. at-home p }) (concludes p) (same-own p)
    (λ r bar i is. and_from _ _ (at-home p) (and_from _ _ (at-home p) refl)) ways next h past burst s
