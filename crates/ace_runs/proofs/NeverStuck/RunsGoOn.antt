-- A run goes on: in a run that follows a right plan and isn't done a port of the header is enabled.
use Rattle.std.proofs.Common.{◌≡◌, ℕ, ◌<◌, Bool, true, false, ◌||◌, ◌==◌, List, [], ◌∷◌, Option, Some, None, is_none, inl, inr, refl}
use Rattle.std.specs.List.{list_all, list_any}
use Rattle.std.proofs.lemmas.Bool.{and_from, and_parts, cases_Bool, false_from_ne_true, ltb-true, or_right}
use Rattle.ace_event.specs.declared.header.Header.{Header}
use Rattle.ace_model.specs.declared.snoops.Snoop.{Snoop}
use Rattle.ace_model.specs.Accepted.{IsAccepted}
use Rattle.ace_model.specs.Grants.{granted, is_granted, ports_below}
use Rattle.ace_model.specs.Plans.{IsRight, Plan}
use Rattle.ace_model.specs.Progress.{evicts, updates_memory}
use Rattle.ace_model.specs.Snoops.{answered}
use Rattle.ace_model.specs.Trace.{Trace}
use Rattle.ace_model.specs.Transactions.{is_complete, is_outstanding, some_issued}
use Rattle.ace_model.proofs.General.Options.{is_some_and-is}
use Rattle.ace_model.proofs.General.Ports.{each_at}
use Rattle.ace_model.proofs.Trace.Growth.{some_issued-found, some_issued-is}
use Rattle.ace_model.proofs.Trace.LineOnce.{outstanding_is}
use Rattle.ace_runs.specs.Follows.{Done, FollowsSoFar, is_done, owes_completion}
use Rattle.ace_runs.specs.LineSteps.{waits}
use Rattle.ace_runs.specs.Steps.{AreSteps, Enabled, is_enabled_by}
use Rattle.ace_runs.proofs.Turns.{steps-accepted}
use Rattle.ace_runs.proofs.NeverStuck.Barriers.WaitingMove.{some-waiting-moves}
use Rattle.ace_runs.proofs.NeverStuck.Steps.EnabledBy.{enabled-by-some}
use Rattle.ace_runs.proofs.NeverStuck.OperationsMove.{some-operation-moves}
use Rattle.ace_runs.proofs.NeverStuck.OrderMoves.{is_served, order-moves}
use Rattle.ace_runs.proofs.NeverStuck.Snoops.{unanswered-snoop}
use Rattle.ace_runs.proofs.NeverStuck.Transactions.SnoopsMove.{failing-port}
use Rattle.ace_runs.proofs.NeverStuck.Transactions.TransactionsMove.{moving_steps, transaction-moves}
use Rattle.ace_runs.proofs.NeverStuck.Updates.UpdatesOrGranted.{granted-there}

-- a port of the header is enabled
abbrev pub SomeEnabled : Plan → Trace → Type 0
SomeEnabled plan past = (p : ℕ) × (p < plan.header.ports) × Enabled plan past p

enabled-by : (plan : Plan) (past : Trace) (numbers : List ℕ) → (p : ℕ) × (p < plan.header.ports) × (is_enabled_by numbers plan past p ≡ true) → SomeEnabled plan past
enabled-by plan past numbers p = (p.0, p.1, enabled-by-some numbers plan past p.0 p.2)

-- ---- unanswered snoops -------------------------------------------------------------------------------

snoop-there : (o : Option Snoop) → is_none o ≡ false → (s : Snoop) × (o ≡ Some s)
snoop-there None f = cc
snoop-there (Some s) f = (s, refl)

none-there : (o : Option Snoop) → is_none o ≡ true → o ≡ None
none-there None t = refl
none-there (Some s) t = cc

-- a port with an unanswered snoop is enabled
snoop-enabled : (plan : Plan) (past : Trace) (p : ℕ) (s : Snoop) → AreSteps plan past → answered past p ≡ Some s → Enabled plan past p
snoop-enabled plan past p s steps is =
    elim (unanswered-snoop plan past p s steps is) [
      | inl now ↦ enabled-by-some (1 ∷ []) plan past p now
      | inr waits ↦ enabled-by-some (2 ∷ 3 ∷ 4 ∷ 7 ∷ []) plan past p waits.2
    ]

-- ---- granted transactions ----------------------------------------------------------------------------

-- a granted transaction is outstanding, so where none moves on by the steps that serve lines, none is granted
none-granted : (h : Header) (past : Trace) → IsAccepted h past → some_issued past (is_served h past) ≡ false → some_issued past (is_granted h past) ≡ false
none-granted h past a none =
    false_from_ne_true (some_issued past (is_granted h past)) (λ some.
    let x = some_issued-is past (is_granted h past) some in
    let y = is_some_and-is (granted h past x.0.addr) (λ z. z.place == x.0.place) x.2 in
    let line = granted-there h past x.0.addr y.0 a y.1 in
    let served : is_served h past y.0 ≡ true =
    and_from _ _ line.is_out (or_right (is_complete past y.0.port y.0.chan y.0.id || updates_memory y.0 || evicts y.0) (is_granted h past y.0) line.is) in
    let bad = some_issued-found past (is_served h past) y.0.place y.0 line.issued.there served in cc)

-- ---- the law -----------------------------------------------------------------------------------------

module _ (plan : Plan) (past : Trace) (right : IsRight plan) (s : AreSteps plan past) (f : FollowsSoFar plan past) (undone : is_done plan past ≡ false) where
  -- each snoop is answered, and no outstanding transaction is served
  unserved-goes-on : ((q : ℕ) → q < plan.header.ports → answered past q ≡ None) → some_issued past (is_served plan.header past) ≡ false → SomeEnabled plan past
  unserved-goes-on answers none =
      let h = plan.header in
      elim (cases_Bool (some_issued past (waits h past))) [
        | inl waiting ↦ enabled-by plan past (5 ∷ []) (some-waiting-moves plan past s f (none-granted h past (steps-accepted plan past s) none) waiting)
        | inr none_waits ↦ elim (cases_Bool (some_issued past (is_outstanding h past) || list_any (owes_completion past) (ports_below h.ports))) [
          | inl some ↦ enabled-by plan past (10 ∷ 11 ∷ 12 ∷ 13 ∷ 14 ∷ []) (order-moves plan past right s answers none none_waits some)
          | inr calm ↦
              let parts = neither (some_issued past (is_outstanding h past)) (list_any (owes_completion past) (ports_below h.ports)) calm in
              enabled-by plan past (4 ∷ 13 ∷ 14 ∷ []) (some-operation-moves plan past answers parts.0 parts.1 right s f undone)
        ]
      ]
    where
      neither : (a b : Bool) → (a || b) ≡ false → (a ≡ false) × (b ≡ false)
      neither true b f = cc
      neither false b f = (refl, f)

  answered-goes-on : ((q : ℕ) → q < plan.header.ports → answered past q ≡ None) → SomeEnabled plan past
  answered-goes-on answers =
      let h = plan.header in
      elim (cases_Bool (some_issued past (is_served h past))) [
        | inr none ↦ unserved-goes-on answers none
        | inl some ↦
            let x = some_issued-is past (is_served h past) some in
            let parts = and_parts (is_outstanding h past x.0) _ x.2 in
            let q = transaction-moves plan past s (λ q low. answers q (ltb-true q h.ports low)) x.0.port x.0.chan x.0.id x.0 (outstanding_is h past x.0 x.1 parts.0) parts.1 in
            enabled-by plan past moving_steps (q.0, ltb-true q.0 h.ports q.1, q.2)
      ]

  -- A run that isn't done has a port that is enabled.
  pub goes-on : SomeEnabled plan past
  goes-on =
      let n = plan.header.ports in
      elim (cases_Bool (list_all (λ q. is_none (answered past q)) (ports_below n))) [
        | inl all ↦ answered-goes-on (λ q low. none-there (answered past q) (each_at n (λ q. is_none (answered past q)) q all low))
        | inr some ↦
            let q = failing-port n (λ q. is_none (answered past q)) some in
            let snoop = snoop-there (answered past q.0) q.2 in
            (q.0, q.1, snoop-enabled plan past q.0 snoop.0 s snoop.1)
      ]

-- the same, where Done doesn't hold
pub goes-on-until-done : (plan : Plan) (past : Trace) → IsRight plan → AreSteps plan past → FollowsSoFar plan past → (Done plan past → ⊥) → SomeEnabled plan past
goes-on-until-done plan past right s f undone = goes-on plan past right s f (false_from_ne_true (is_done plan past) undone)
