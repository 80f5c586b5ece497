-- A step of the interconnect that serves a transaction: where it is enabled there is a transaction that it serves, and the burst for that is a step
-- where no event of it breaks a rule.
use Rattle.std.proofs.Common.{◌≡◌, ℕ, true, ◌&&◌, ◌==◌, ◌<◌, nat_le, List, length, Some, sym, subst}
use Rattle.std.specs.List.{list_all, list_any}
use Rattle.std.proofs.Math.ListN.{get_or}
use Rattle.std.proofs.lemmas.Bool.{and_from, and_parts, eq-eqb, eqb-true}
use Rattle.std.proofs.lemmas.List.Folds.{list_any_at}
use Rattle.ace_event.specs.declared.event.Channel.{Channel}
use Rattle.ace_event.specs.declared.event.Event.{Event}
use Rattle.ace_event.specs.declared.header.Header.{Header}
use Rattle.ace_model.specs.declared.transactions.Transaction.{Transaction}
use Rattle.ace_model.specs.Plans.{Plan}
use Rattle.ace_model.specs.Trace.{Trace}
use Rattle.ace_model.specs.Transactions.{is_outstanding, outstanding}
use Rattle.ace_model.proofs.Trace.Growth.{IsIssued, some_issued-found, some_issued-is}
use Rattle.ace_model.proofs.Trace.LineOnce.{outstanding_is}
use Rattle.ace_runs.specs.Bursts.{are_kept, may_begin, may_serve, serves}
use Rattle.ace_runs.specs.SameEvents.{same_burst}
use Rattle.ace_runs.specs.Steps.{StepKind, has_number, is_sound, may_give, service, steps_of}
use Rattle.ace_runs.proofs.NeverStuck.Steps.SameBursts.{burst-self}
use Rattle.ace_engine.specs.Engines.{is_of_interconnect}
use Rattle.ace_engine.proofs.Pending.{IsPending}
use Rattle.ace_whole_runs.proofs.Interconnect.{GivesStep}

-- There are one to sixteen events of the interconnect, none of which breaks a rule.
pub record IsGiven (h : Header) (past : Trace) (burst : List Event) : Type 0 where
  pub some : nat_le 1 (length burst) ≡ true
  pub few : nat_le (length burst) 16 ≡ true
  pub kept : are_kept h past burst ≡ true
  pub own : list_all is_of_interconnect burst ≡ true

-- An outstanding transaction of the port has a burst whose first event breaks no rule.
pub record MayServe (burst_for : Header → Trace → Transaction → List Event) (h : Header) (past : Trace) (p : ℕ) : Type 0 where
  pub of : Transaction
  pub issued : IsIssued past of
  pub port : of.port ≡ p
  pub is_out : is_outstanding h past of ≡ true
  pub begins : may_begin h past (burst_for h past of) ≡ true

module _ (burst_for : Header → Trace → Transaction → List Event) where
  pub pending : (h : Header) (past : Trace) (p : ℕ) (s : MayServe burst_for h past p) (c : Channel) → s.of.chan ≡ c → IsPending h past p c s.of
  pending h past p s c chan = record {
    issued = s.issued;
    port = s.port;
    chan = chan;
    is_out = s.is_out;
    out = subst (λ d. outstanding h past p d s.of.id ≡ Some s.of) chan
        (subst (λ q. outstanding h past q s.of.chan s.of.id ≡ Some s.of) s.port (outstanding_is h past s.of s.issued s.is_out));
  }

  pub may-serve : (h : Header) (past : Trace) (p : ℕ) → may_serve burst_for h past p ≡ true → MayServe burst_for h past p
  may-serve h past p may =
      let x = some_issued-is past (λ x. (x.port == p) && is_outstanding h past x && may_begin h past (burst_for h past x)) may in
      let two = and_parts ((x.0.port == p) && is_outstanding h past x.0) (may_begin h past (burst_for h past x.0)) x.2 in
      let one = and_parts (x.0.port == p) (is_outstanding h past x.0) two.0 in
      record { of = x.0; issued = x.1; port = eqb-true x.0.port p one.0; is_out = one.1; begins = two.1 }

  module _ (plan : Plan) (past : Trace) (p : ℕ) (s : MayServe burst_for plan.header past p) where
    abbrev burst : List Event
    burst = burst_for plan.header past s.of

    gives : serves burst_for plan.header past p (burst_for plan.header past s.of) ≡ true
    gives =
        some_issued-found past (λ x. (x.port == p) && is_outstanding plan.header past x && same_burst (burst_for plan.header past x) burst)
        s.of.place s.of s.issued.there (and_from _ _ (and_from _ _ (eq-eqb s.of.port p s.port) s.is_out) (burst-self burst))

    -- the burst for it is given by the step that stands at the place
    given : (numbers : List ℕ) (n k : ℕ) → has_number numbers (service n burst_for) ≡ true
        → k < length (steps_of plan past p) → get_or (steps_of plan past p) k (service n burst_for) ≡ service n burst_for
        → may_serve burst_for plan.header past p ≡ true → IsGiven plan.header past (burst_for plan.header past s.of) → GivesStep numbers plan past p
    given numbers n k has low at may g =
        let test = λ (r : StepKind). has_number numbers r && may_give plan.header past p burst r in
        record {
          burst = burst;
          step = and_from (is_sound plan.header past burst) (list_any test (steps_of plan past p))
              (and_from _ _ (and_from _ _ g.some g.few) g.kept)
              (list_any_at test (steps_of plan past p) k (service n burst_for) low
              (subst (λ (v : StepKind). (has_number numbers v && may_give plan.header past p burst v) ≡ true) (sym at)
              (and_from _ _ has (and_from _ _ may gives))));
          own = g.own;
        }

  pub gives-given : (numbers : List ℕ) (plan : Plan) (past : Trace) (p n k : ℕ) → has_number numbers (service n burst_for) ≡ true
      → k < length (steps_of plan past p) → get_or (steps_of plan past p) k (service n burst_for) ≡ service n burst_for
      → ((s : MayServe burst_for plan.header past p) → IsGiven plan.header past (burst_for plan.header past s.of))
      → may_serve burst_for plan.header past p ≡ true → GivesStep numbers plan past p
  gives-given numbers plan past p n k has low at each may =
      let s = may-serve plan.header past p may in given plan past p s numbers n k has low at may (each s)
