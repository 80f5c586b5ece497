-- A granted transaction that hasn't begun and whose snoops aren't done: where no AC is unanswered, another ACE port holds the line and wasn't
-- snooped. It has a WK to give, by step 4, or the transaction's port may snoop it, by step 6.
use Rattle.std.proofs.Common.{◌≡◌, ℕ, zero, suc, ◌<◌, Bool, true, false, not, ◌&&◌, ◌||◌, ◌==◌, nat_lt, [], ◌∷◌, Option, Some, None, is_none, refl, ap, subst, ◌∙◌, inl, inr, arith}
use Rattle.std.specs.List.{list_all, list_any}
use Rattle.std.proofs.lemmas.Bool.{and_parts, and_from, cases_Bool, eqb-true, eq-eqb, lt-ltb, not-false, or_left, or_parts}
use Rattle.ace_codes.specs.declared.kind.SnoopKind.{SnoopKind}
use Rattle.ace_event.specs.declared.header.Header.{Header}
use Rattle.ace_tables.specs.States.{is_invalid}
use Rattle.ace_model.specs.declared.transactions.Transaction.{Transaction}
use Rattle.ace_model.specs.Exclusives.{has_failed}
use Rattle.ace_model.specs.Grants.{is_begun, is_granted, owes_answer, owes_data, ports_below, was_snooped}
use Rattle.ace_model.specs.Plans.{Plan}
use Rattle.ace_model.specs.Snoops.{answered}
use Rattle.ace_model.specs.States.{are_snoops_done, awaits_wack, is_port_done, owes_wack, state_of}
use Rattle.ace_model.specs.Trace.{Trace, is_some_and}
use Rattle.ace_model.specs.Transactions.{is_ace, is_complete, is_line, is_on, is_outstanding, is_outstanding_on, is_read, snoop_of}
use Rattle.ace_model.proofs.General.Ports.{none_at}
use Rattle.ace_model.proofs.Trace.Growth.{some_issued-found, some_issued-is}
use Rattle.ace_model.proofs.Trace.LineOnce.{outstanding_is}
use Rattle.ace_runs.specs.Bursts.{is_kept}
use Rattle.ace_runs.specs.LineSteps.{may_snoop, snoop_for}
use Rattle.ace_runs.specs.Steps.{AreSteps, is_enabled_by}
use Rattle.ace_runs.proofs.Few.Queues.{eqb-swap}
use Rattle.ace_runs.proofs.Turns.{steps-accepted}
use Rattle.ace_runs.proofs.NeverStuck.Complete.{complete-enabled}
use Rattle.ace_runs.proofs.NeverStuck.Steps.EnabledBy.{enabled-by-more}
use Rattle.ace_runs.proofs.NeverStuck.Data.NoDataOwed.{no-data-owed}
use Rattle.ace_runs.proofs.NeverStuck.Updates.UpdatesOrGranted.{HasLine}
use Rattle.ace_model.proofs.Trace.IssuedTransactions.{issuer-low}
use Rattle.ace_runs.proofs.NeverStuck.Forwarding.Whole.{next-not-second}
use Rattle.ace_runs.proofs.NeverStuck.Transactions.SnoopsKept.{MaySnoop, snoop-kept}
use Rattle.ace_runs.proofs.NeverStuck.Transactions.Unanswered.{answered-all}

-- ---- the port that isn't done ------------------------------------------------------------------------

pub failing-port : (n : ℕ) (test : ℕ → Bool) → list_all test (ports_below n) ≡ false → (q : ℕ) × (q < n) × (test q ≡ false)
failing-port zero test f = cc
failing-port (suc n) test f =
    elim (cases_Bool (test n)) [
      | inr fails ↦ (n, omega arith, fails)
      | inl t ↦
          let later : list_all test (ports_below n) ≡ false = rw t at f in
          let q = failing-port n test later in
          let low = q.1 in
          (q.0, omega (arith, low), q.2)
    ]

-- The snoops that aren't done are those of a kind, and lack a port.
record Lacks (h : Header) (past : Trace) (x : Transaction) : Type 0 where
  kind : SnoopKind
  caused : snoop_of x ≡ Some kind
  unfailed : has_failed past x ≡ false
  port : ℕ
  low : port < h.ports
  undone : is_port_done h past x port ≡ false

some-kind : (o : Option SnoopKind) → is_none o ≡ false → (k : SnoopKind) × (o ≡ Some k)
some-kind None f = cc
some-kind (Some k) f = (k, refl)

lacks-port : (h : Header) (past : Trace) (x : Transaction) → are_snoops_done h past x ≡ false → Lacks h past x
lacks-port h past x f =
    let two = or_parts (is_none (snoop_of x) || has_failed past x) (list_all (is_port_done h past x) (ports_below h.ports)) f in
    let one = or_parts (is_none (snoop_of x)) (has_failed past x) two.0 in
    let k = some-kind (snoop_of x) one.0 in
    let q = failing-port h.ports (is_port_done h past x) two.1 in
    record { kind = k.0; caused = k.1; unfailed = one.1; port = q.0; low = q.1; undone = q.2 }

-- a port that owes nothing and isn't done is another ACE port, and wasn't snooped
record Unsnooped (h : Header) (past : Trace) (x : Transaction) (q : ℕ) : Type 0 where
  other : (x.port == q) ≡ false
  ace : is_ace h q ≡ true
  unsnooped : was_snooped past q x.addr ≡ false

unsnooped-port : (h : Header) (past : Trace) (x : Transaction) (q : ℕ) → owes_answer past q x.addr ≡ false → owes_data past q x.addr ≡ false
    → is_port_done h past x q ≡ false → Unsnooped h past x q
unsnooped-port h past x q no_answer no_data f =
    let rest : ((q == x.port) || not (is_ace h q) || is_invalid (state_of h past q x.addr) || was_snooped past q x.addr) ≡ false = rw (no_answer, no_data) at f in
    let three = or_parts ((q == x.port) || not (is_ace h q) || is_invalid (state_of h past q x.addr)) (was_snooped past q x.addr) rest in
    let two = or_parts ((q == x.port) || not (is_ace h q)) (is_invalid (state_of h past q x.addr)) three.0 in
    let one = or_parts (q == x.port) (not (is_ace h q)) two.0 in
    record { other = eqb-swap x.port q ∙ one.0; ace = not-false (is_ace h q) one.1; unsnooped = three.1 }

-- ---- step 4 or step 6 --------------------------------------------------------------------------------

-- a port that has a write of the line with B and without WK is enabled by step 4
wack-enabled : (plan : Plan) (past : Trace) (q l : ℕ) → AreSteps plan past → owes_wack plan.header past q l ≡ true → is_enabled_by (4 ∷ []) plan past q ≡ true
wack-enabled plan past q l s owes =
    let h = plan.header in
    let y = some_issued-is past (awaits_wack h past q l) owes in
    let two = and_parts (is_outstanding_on h past q l y.0 && not (is_read y.0.chan)) (is_complete past y.0.port y.0.chan y.0.id) y.2 in
    let on = (and_parts (is_outstanding_on h past q l y.0) (not (is_read y.0.chan)) two.0).0 in
    let out = and_parts ((y.0.port == q) && is_on y.0 l) (is_outstanding h past y.0) on in
    let port = eqb-true y.0.port q (and_parts (y.0.port == q) (is_on y.0 l) out.0).0 in
    subst (λ r. is_enabled_by (4 ∷ []) plan past r ≡ true) port
    (complete-enabled plan past y.0.port y.0.chan y.0.id y.0 s (outstanding_is h past y.0 y.1 out.1) two.1)

pub any-port : (n : ℕ) (test : ℕ → Bool) (q : ℕ) → q < n → test q ≡ true → list_any test (ports_below n) ≡ true
any-port n test q low t =
    elim (cases_Bool (list_any test (ports_below n))) [
      | inl some ↦ some
      | inr none ↦ let fails = none_at n test q none low in cc
    ]

by-snoop : (plan : Plan) (past : Trace) (x : Transaction) (k : SnoopKind) (q : ℕ) → HasLine plan.header past x.addr x → snoop_of x ≡ Some k → q < plan.header.ports
    → is_kept plan.header past (snoop_for x k q) ≡ true → is_enabled_by (6 ∷ []) plan past x.port ≡ true
by-snoop plan past x k q line caused low is =
    let h = plan.header in
    let some = any-port h.ports (λ r. is_kept h past (snoop_for x k r)) q low is in
    let of_kind : is_some_and (snoop_of x) (λ k. list_any (λ r. is_kept h past (snoop_for x k r)) (ports_below h.ports)) ≡ true =
    ap (λ o. is_some_and o (λ k. list_any (λ r. is_kept h past (snoop_for x k r)) (ports_below h.ports))) caused ∙ some in
    let may : may_snoop h past x.port ≡ true =
    some_issued-found past
    (λ y. (y.port == x.port) && is_outstanding h past y
    && (is_granted h past y && is_some_and (snoop_of y) (λ k. list_any (λ r. is_kept h past (snoop_for y k r)) (ports_below h.ports))))
    x.place x line.issued.there
    (and_from _ _ (and_from _ _ (eq-eqb x.port x.port refl) line.is_out) (and_from _ _ line.is of_kind)) in
    or_left (may_snoop h past x.port) _ may

-- Some port is enabled by step 4, or the transaction's port by step 6.
pub snoops-move : (plan : Plan) (past : Trace) (x : Transaction) → AreSteps plan past → ((q : ℕ) → nat_lt q plan.header.ports ≡ true → answered past q ≡ None)
    → HasLine plan.header past x.addr x → is_begun past x ≡ false → are_snoops_done plan.header past x ≡ false
    → (q : ℕ) × (nat_lt q plan.header.ports ≡ true) × (is_enabled_by (4 ∷ 6 ∷ []) plan past q ≡ true)
snoops-move plan past x s none line unbegun undone =
    let h = plan.header in
    let a = steps-accepted plan past s in
    let lacks = lacks-port h past x undone in
    let q = lacks.port in
    let low = lt-ltb lacks.port h.ports lacks.low in
    let u = unsnooped-port h past x q (answered-all h past q x.addr a (none q low)) (no-data-owed plan past q x.addr s) lacks.undone in
    elim (cases_Bool (owes_wack h past q x.addr)) [
      | inl owes ↦ (q, low, enabled-by-more (4 ∷ []) (4 ∷ 6 ∷ []) plan past q refl (wack-enabled plan past q x.addr s owes))
      | inr owes_none ↦
          let m : MaySnoop h past x lacks.port = record { other = u.other; ace = u.ace; unsnooped = u.unsnooped; acknowledged = owes_none; whole = next-not-second plan past q s low } in
          let is_line_one = (and_parts (is_line x) (x.addr == x.addr) line.on).0 in
          let is = snoop-kept h past x lacks.kind q a line.issued is_line_one line.holds lacks.caused lacks.unfailed unbegun m in
          (x.port, issuer-low h past x a line.issued, enabled-by-more (6 ∷ []) (4 ∷ 6 ∷ []) plan past x.port refl (by-snoop plan past x lacks.kind q line lacks.caused lacks.low is))
    ]
