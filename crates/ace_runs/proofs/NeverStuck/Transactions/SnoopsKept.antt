-- The snoop of a granted transaction, of another ACE port that wasn't snooped under its grant, breaks no rule where the port awaits no WK of a
-- write of the line and its next part of a message is no second one.
use Rattle.std.proofs.Common.{◌≡◌, ℕ, Bool, true, false, not, ◌&&◌, ◌==◌, nat_lt, if◌then◌else◌, Option, Some, None, is_none, is_some, refl, ap, ◌∙◌}
use Rattle.std.proofs.lemmas.Bool.{and_parts, and_from, eq-eqb, or_right}
use Rattle.ace_codes.specs.declared.kind.SnoopKind.{SnoopKind}
use Rattle.ace_codes.specs.Snoops.{ac_code}
use Rattle.ace_event.specs.declared.event.Event.TheVariants.{Ac}
use Rattle.ace_event.specs.declared.header.Header.{Header}
use Rattle.ace_model.specs.declared.transactions.Transaction.{Transaction}
use Rattle.ace_model.specs.Accepted.{IsAccepted}
use Rattle.ace_model.specs.AddressRules.{is_aligned, k1, k2, k3}
use Rattle.ace_model.specs.Exclusives.{has_failed}
use Rattle.ace_model.specs.Grants.{granted, is_begun, was_snooped}
use Rattle.ace_model.specs.Kinds.{is_line_snoop}
use Rattle.ace_model.specs.Messages.{is_second_part, next_part}
use Rattle.ace_model.specs.OrderRules.{completes_next, forwards_next, k36, k39}
use Rattle.ace_model.specs.SnoopRules.{has_snoop_code, k13, may_snoop, may_snoop_for}
use Rattle.ace_model.specs.Snoops.{snoops_a_line}
use Rattle.ace_model.specs.States.{owes_wack}
use Rattle.ace_model.specs.Trace.{Trace, is_none_or, is_some_and}
use Rattle.ace_model.specs.Transactions.{is_ace, is_line, snoop_of}
use Rattle.ace_model.proofs.Tables.ReadSnoops.{kind_of_code}
use Rattle.ace_model.proofs.Trace.Growth.{IsIssued}
use Rattle.ace_runs.specs.Bursts.{is_kept}
use Rattle.ace_runs.specs.LineSteps.{snoop_for}
use Rattle.ace_model.proofs.Trace.IssuedTransactions.{line-aligned}
use Rattle.ace_runs.proofs.NeverStuck.Data.WholeAnswers.{line-not-complete}
use Rattle.ace_runs.proofs.NeverStuck.Forwarding.Steps.{caused-line, line-no-message}

-- ---- the rules that look at a snoop ------------------------------------------------------------------

keeps : (b : Bool) (n : ℕ) (later : Option ℕ) → b ≡ true → is_none later ≡ true → is_none (if b then later else Some n) ≡ true
keeps true n later k rest = rest
keeps false n later k rest = cc

six-kept : (a b c d e f : Bool) → a ≡ true → b ≡ true → c ≡ true → d ≡ true → e ≡ true → f ≡ true
    → is_none {T = ℕ} (if a then (if b then (if c then (if d then (if e then (if f then None else Some 39) else Some 36) else Some 13) else Some 3) else Some 2) else Some 1) ≡ true
six-kept a b c d e f u v w x y z = keeps a 1 _ u (keeps b 2 _ v (keeps c 3 _ w (keeps d 13 _ x (keeps e 36 _ y (keeps f 39 None z refl)))))

-- six of the rules look at a snoop
pub ac-kept : (h : Header) (past : Trace) (q addr code : ℕ) → k1 h past (Ac q addr code) ≡ true → k2 h past (Ac q addr code) ≡ true → k3 h past (Ac q addr code) ≡ true
    → k13 h past (Ac q addr code) ≡ true → k36 h past (Ac q addr code) ≡ true → k39 h past (Ac q addr code) ≡ true → is_kept h past (Ac q addr code) ≡ true
unfolding is_kept
ac-kept h past q addr code one two three snoops forwards completes =
    six-kept (k1 h past (Ac q addr code)) (k2 h past (Ac q addr code)) (k3 h past (Ac q addr code)) (k13 h past (Ac q addr code)) (k36 h past (Ac q addr code))
    (k39 h past (Ac q addr code)) one two three snoops forwards completes

-- A port that the granted transaction may snoop.
pub record MaySnoop (h : Header) (past : Trace) (x : Transaction) (q : ℕ) : Type 0 where
  pub other : (x.port == q) ≡ false
  pub ace : is_ace h q ≡ true
  pub unsnooped : was_snooped past q x.addr ≡ false
  pub acknowledged : owes_wack h past q x.addr ≡ false
  pub whole : is_some_and (next_part past q) (is_second_part past) ≡ false

pub snoop-kept : (h : Header) (past : Trace) (x : Transaction) (k : SnoopKind) (q : ℕ) → IsAccepted h past → IsIssued past x → is_line x ≡ true → granted h past x.addr ≡ Some x
    → snoop_of x ≡ Some k → has_failed past x ≡ false → is_begun past x ≡ false → MaySnoop h past x q → is_kept h past (snoop_for x k q) ≡ true
snoop-kept h past x k q a i line holds caused unfailed unbegun m =
    let of_line = caused-line x k caused in
    let code = kind_of_code k in
    let snoops : snoops_a_line (ac_code k) ≡ true = ap (λ o. is_some_and o is_line_snoop) code ∙ of_line in
    let low = (and_parts (nat_lt q h.ports) _ m.ace).0 in
    let other = m.other in
    let unsnooped = m.unsnooped in
    let acknowledged = m.acknowledged in
    let whole = m.whole in
    let has_code : has_snoop_code x (ac_code k) ≡ true = ap (λ o. is_some_and o (λ j. ac_code j == ac_code k)) caused ∙ eq-eqb (ac_code k) (ac_code k) refl in
    let for_one : may_snoop_for past x q (ac_code k) ≡ true = and_from _ _ (and_from _ _ (and_from _ _ (ap not other) has_code) (ap not unfailed)) (ap not unbegun) in
    let for_line : is_some_and (granted h past x.addr) (λ y. may_snoop_for past y q (ac_code k)) ≡ true = ap (λ o. is_some_and o (λ y. may_snoop_for past y q (ac_code k))) holds ∙ for_one in
    let may : may_snoop h past q x.addr (ac_code k) ≡ true = and_from _ _ (and_from _ _ for_line (ap not unsnooped)) (ap not acknowledged) in
    let no_message = line-no-message k of_line in
    let no_completion = line-not-complete k of_line in
    let forwards : forwards_next past q x.addr k ≡ true = rw (no_message, whole) refl in
    let completes : completes_next h past q x.addr k ≡ true = rw no_completion refl in
    ac-kept h past q x.addr (ac_code k)
    (and_from _ _ low m.ace)
    (ap is_some code)
    (ap (λ b. is_none_or (if b then Some x.addr else None) is_aligned && true) snoops ∙ and_from _ _ (line-aligned h past x a i line) refl)
    (or_right (not (snoops_a_line (ac_code k))) (may_snoop h past q x.addr (ac_code k)) may)
    (ap (λ o. is_none_or o (forwards_next past q x.addr)) code ∙ forwards)
    (ap (λ o. is_none_or o (completes_next h past q x.addr)) code ∙ completes)
