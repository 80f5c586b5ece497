-- A DVM message that is outstanding moves on: where all snoops are answered, its port is enabled by step 12, or some port by step 11.
use Rattle.std.proofs.Common.{◌≡◌, ◌≢◌, ◌⊎◌, ℕ, ◌<◌, Bool, true, false, not, ◌==◌, nat_lt, [], ◌∷◌, Some, None, inl, inr, refl, sym, ◌∙◌}
use Rattle.std.proofs.lemmas.Bool.{and_parts, cases_Bool, eq-eqb, ltb-true}
use Rattle.ace_event.specs.declared.header.Header.{Header}
use Rattle.ace_model.specs.declared.transactions.Transaction.{Transaction}
use Rattle.ace_model.specs.Messages.{has_answered, has_part, is_message_part, is_other_ace, parts_for}
use Rattle.ace_model.specs.OrderRules.{is_answered_by_all}
use Rattle.ace_model.specs.Plans.{IsRight, Plan}
use Rattle.ace_model.specs.Snoops.{answered}
use Rattle.ace_model.specs.Trace.{Trace, implies}
use Rattle.ace_model.specs.Transactions.{is_ace, is_complete, is_outstanding}
use Rattle.ace_model.proofs.Dvm.Parts.{parts-cases}
use Rattle.ace_model.proofs.Trace.Growth.{IsIssued}
use Rattle.ace_runs.specs.Steps.{AreSteps, is_enabled_by}
use Rattle.ace_runs.proofs.Turns.{steps-accepted}
use Rattle.ace_runs.proofs.NeverStuck.Forwarding.NextMessage.{next-begins}
use Rattle.ace_runs.proofs.NeverStuck.Forwarding.Whole.{messages-whole}
use Rattle.ace_runs.proofs.NeverStuck.Transactions.SnoopsMove.{failing-port}
use Rattle.ace_model.proofs.Trace.IssuedTransactions.{issuer-low}
use Rattle.ace_runs.proofs.NeverStuck.Messages.DvmResponses.{answered-part-moves}
use Rattle.ace_runs.proofs.NeverStuck.Messages.PartsGoOn.{message-there, next-enabled, next-there}
use Rattle.ace_runs.proofs.NeverStuck.Messages.WholeMessages.{issues-whole}

-- An ACE port that hasn't answered the part.
pub record Lacks (h : Header) (past : Trace) (x : Transaction) : Type 0 where
  pub port : ℕ
  pub ace : is_ace h port ≡ true
  pub other : x.port ≢ port
  pub unanswered : has_answered past x port ≡ false

lacks : (h : Header) (past : Trace) (x : Transaction) → is_answered_by_all h past x ≡ false → Lacks h past x
lacks h past x f =
    let q = failing-port h.ports (λ q. implies (is_other_ace h x.port q) (has_answered past x q)) f in
    let parts = both (is_other_ace h x.port q.0) (has_answered past x q.0) q.2 in
    let of = and_parts (is_ace h q.0) (not (q.0 == x.port)) parts.0 in
    record {
      port = q.0;
      ace = of.0;
      other = λ same. let t = eq-eqb q.0 x.port (sym same) in let bad : false ≡ true = rw t at of.1 in cc;
      unanswered = parts.1;
    }
  where
    both : (a b : Bool) → implies a b ≡ false → (a ≡ true) × (b ≡ false)
    both true false f = (refl, refl)
    both true true f = cc
    both false b f = cc

-- a part of a run of a right plan is for each other port
part-for : (plan : Plan) (past : Trace) (x : Transaction) (q : ℕ) → IsRight plan → AreSteps plan past → IsIssued past x → is_message_part x ≡ true → x.port ≢ q
    → has_part (parts_for past q) x ≡ true
part-for plan past x q right s i part other =
    elim (parts-cases x q part other past i) [
      | inl for_it ↦ for_it
      | inr waits ↦ let none = issues-whole plan past right s x.port in let bad : None ≡ Some x = sym none ∙ waits in cc
    ]

-- The port of an outstanding part of a DVM message that isn't complete is enabled by step 12, or some port is enabled by step 11.
pub message-moves : (plan : Plan) (past : Trace) (x : Transaction) → IsRight plan → AreSteps plan past → ((q : ℕ) → q < plan.header.ports → answered past q ≡ None)
    → IsIssued past x → is_message_part x ≡ true → is_outstanding plan.header past x ≡ true → is_complete past x.port x.chan x.id ≡ false
    → (is_enabled_by (12 ∷ []) plan past x.port ≡ true)
    ⊎ ((p : ℕ) × (p < plan.header.ports) × (is_enabled_by (11 ∷ []) plan past p ≡ true))
message-moves plan past x right s none i part is_out undone =
    let h = plan.header in
    elim (cases_Bool (is_answered_by_all h past x)) [
      | inl answered_all ↦ inl (answered-part-moves plan past x s i part is_out undone answered_all)
      | inr f ↦
          let l = lacks h past x f in
          let q = l.port in
          let low = (and_parts (nat_lt q h.ports) _ l.ace).0 in
          let w = messages-whole plan past s q low in
          let y = next-there past x q w (none q (ltb-true q h.ports low)) l.unanswered (part-for plan past x q right s i part l.other) in
          let m = next-begins past q y.0 w y.1 in
          inr (m.last.port, ltb-true m.last.port h.ports (issuer-low h past m.last (steps-accepted plan past s) (message-there past q y.0 m)), next-enabled plan past q y.0 m l.ace y.1)
    ]
