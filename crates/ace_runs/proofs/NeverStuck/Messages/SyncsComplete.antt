-- A Sync that is complete has its AC DVM Complete: where no port owes a DVM Complete, each has sent the one for it, and the port of the Sync is
-- enabled by step 13.
use Rattle.std.proofs.Common.{◌≡◌, ◌≢◌, ℕ, zero, suc, ◌+◌, ◌≤◌, ◌<◌, Bool, true, false, not, ◌||◌, ◌==◌, cond, nat_lt, nat_le, List, [], ◌∷◌, ◌++◌, length, length-append, count_by, Some, refl, sym, ap, subst, ◌∙◌, inl, inr, arith}
use Rattle.std.specs.List.{list_all}
use Rattle.std.proofs.lemmas.Bool.{and_parts, and_from, cases_Bool, cases_lt, eq-eqb, le-leb, ltb-false, or_left, or_right}
use Rattle.std.proofs.lemmas.List.Sums.{sum_by_push}
use Rattle.ace_codes.specs.declared.kind.ArKind.{ArKind}
use Rattle.ace_codes.specs.declared.kind.ArKind.TheVariants as read
use Rattle.ace_codes.specs.declared.kind.SnoopKind.TheVariants as snoop
use Rattle.ace_codes.specs.Reads.{ar_kind_of}
use Rattle.ace_codes.specs.Snoops.{ac_code, ac_kind_of}
use Rattle.ace_event.specs.declared.event.Event.{Event}
use Rattle.ace_event.specs.declared.event.Event.TheVariants.{Ac, Ar}
use Rattle.ace_event.specs.declared.header.Header.{Header}
use Rattle.ace_model.specs.declared.transactions.Transaction.{Transaction}
use Rattle.ace_model.specs.Accepted.{IsAccepted}
use Rattle.ace_model.specs.AddressRules.{k1, k2, may_issue_read}
use Rattle.ace_model.specs.Grants.{ports_below}
use Rattle.ace_model.specs.Kinds.{is_dvm_message}
use Rattle.ace_model.specs.Messages.{answered_parts, answered_syncs, dvm_completes, has_answered, is_message_part, is_other_ace, is_sync, is_sync_completed, last_sync, parts_for, sync_number}
use Rattle.ace_model.specs.OrderRules.{has_every_completion, k36, k39, may_complete}
use Rattle.ace_model.specs.Plans.{Plan}
use Rattle.ace_model.specs.Progress.{is_completed}
use Rattle.ace_model.specs.Trace.{Trace, at_point, implies, is_none_or, is_some_and}
use Rattle.ace_model.specs.Transactions.{is_ace, issued, read_kind}
use Rattle.ace_model.proofs.Dvm.Forwarding.{answered-before, answered-first}
use Rattle.ace_model.proofs.Dvm.Parts.{IsBelow, part-placed, parts-placed}
use Rattle.ace_model.proofs.Dvm.Syncs.{IsSyncIn, last_sync-is, sync-at, sync-next}
use Rattle.ace_model.proofs.General.Lists.{IsStart, count_by-start, start-all, start-both, start-length, start-self}
use Rattle.ace_model.proofs.General.Options.{is_none_or-at, is_some_and-is}
use Rattle.ace_model.proofs.Rules.Keeps.{accepted_keeps}
use Rattle.ace_model.proofs.Trace.Growth.{IsIssued}
use Rattle.ace_model.proofs.Trace.Places.{at_point-length}
use Rattle.ace_runs.specs.Follows.{owes_completion}
use Rattle.ace_runs.specs.OrderSteps.{may_give_completion}
use Rattle.ace_runs.specs.Steps.{AreSteps, is_enabled_by}
use Rattle.ace_runs.proofs.Turns.{steps-accepted}
use Rattle.ace_runs.proofs.NeverStuck.Forwarding.Whole.{next-not-second}
use Rattle.ace_runs.proofs.NeverStuck.Messages.AnsweredMessages.{completed-answered}
use Rattle.ace_runs.proofs.NeverStuck.Transactions.SnoopsKept.{ac-kept}
use Rattle.ace_model.proofs.Trace.IssuedTransactions.{issued-by-rule, some-none}

-- ---- the port of a message ---------------------------------------------------------------------------

reader-by-rule : (h : Header) (past : Trace) (e : Event) (n : ℕ) → k2 h past e ≡ true → is_none_or (issued n e) (λ x. is_none_or (read_kind x) (may_issue_read h x.port)) ≡ true
reader-by-rule h past (Ar p i addr code dom bar lock) n k = some-none (ar_kind_of code dom bar) (may_issue_read h p) k
reader-by-rule h past e n k = refl

reader-may : (h : Header) (past : Trace) (x : Transaction) → IsAccepted h past → IsIssued past x → is_none_or (read_kind x) (may_issue_read h x.port) ≡ true
reader-may h past x a i =
    issued-by-rule (λ x. is_none_or (read_kind x) (may_issue_read h x.port)) h (λ past e a. reader-by-rule h past e (length past) (accepted_keeps h past e a).rule_2) past x a i

-- it is an ACE port
pub message-of-ace : (h : Header) (past : Trace) (x : Transaction) → IsAccepted h past → IsIssued past x → is_message_part x ≡ true → is_ace h x.port ≡ true
message-of-ace h past x a i part =
    let k = is_some_and-is (read_kind x) is_dvm_message part in
    by k.0 k.2 (is_none_or-at (read_kind x) (may_issue_read h x.port) k.0 (reader-may h past x a i) k.1)
  where
    either : (b : Bool) → (b || false) ≡ true → b ≡ true
    either true t = refl
    either false t = cc

    by : (k : ArKind) → is_dvm_message k ≡ true → may_issue_read h x.port k ≡ true → is_ace h x.port ≡ true
    by read.DvmMessage m may = either (is_ace h x.port) may
    by k m may = cc

-- ---- the DVM Completes -------------------------------------------------------------------------------

-- one more that passes the test
one-more : (test : Transaction → Bool) (xs : List Transaction) (x : Transaction) → test x ≡ true → count_by test (xs ++ x ∷ []) ≡ count_by test xs + 1
one-more test xs x t =
    let sum = sum_by_push (λ y. cond {A = ℕ} (test y) 1 0) xs x in
    let is : cond {A = ℕ} (test x) 1 0 ≡ 1 = rw t refl in
    omega (arith, sum, is)

-- a port that has answered the Sync has answered as many Syncs as it is the number of
answered-number : (h : Header) (past : Trace) (x : Transaction) (q : ℕ) → IsAccepted h past → IsSyncIn past x → x.port ≢ q → has_answered past x q ≡ true
    → sync_number past x q ≤ answered_syncs past q
answered-number h past x q a s other has =
    let first = parts_for (at_point x.place past) q in
    let answered = answered_parts past q in
    let in_past = s.issued.before in
    let long = at_point-length past x.place (omega (arith, in_past)) in
    let before : IsStart (parts_for (at_point x.place past) q) (answered_parts past q) = answered-before past x q (omega (arith, in_past)) has in
    let upto : IsStart (parts_for (at_point x.place past) q ++ x ∷ []) (parts_for past q) = sync-next h past x q a s other in
    let longer = length-append first (x ∷ []) in
    elim (cases_lt (length first) (length answered)) [
      | inl many ↦
          let all = start-both (first ++ x ∷ []) answered (parts_for past q) upto (answered-first past q) (omega (arith, many, longer)) in
          let count = count_by-start (is_sync past) (first ++ x ∷ []) answered all in
          let more = one-more (is_sync past) first x s.kind in
          omega (arith, count, more)
      | inr few ↦
          let short = start-length first answered before in
          let all = start-both answered first answered (start-self answered) before few in
          let placed = start-all (IsBelow (length (at_point x.place past))) answered first all (parts-placed (at_point x.place past) q) in
          let low = part-placed answered (length (at_point x.place past)) x placed has in
          absurd (omega (arith, low, long))
    ]

-- the test passes at each port below the number
all-ports : (n : ℕ) (test : ℕ → Bool) → ((q : ℕ) → q < n → test q ≡ true) → list_all test (ports_below n) ≡ true
all-ports zero test each = refl
all-ports (suc n) test each = and_from _ _ (each n (omega arith)) (all-ports n test (λ q low. each q (omega (arith, low))))

every-completion : (h : Header) (past : Trace) (x : Transaction) → IsAccepted h past → IsSyncIn past x → is_message_part x ≡ true → is_completed past x ≡ true
    → ((q : ℕ) → q < h.ports → owes_completion past q ≡ false) → has_every_completion h past x ≡ true
every-completion h past x a s part complete none =
    all-ports h.ports (λ q. implies (is_other_ace h x.port q) (nat_le (sync_number past x q) (dvm_completes past q))) (λ q low.
    elim (cases_Bool (is_other_ace h x.port q)) [
      | inr f ↦ rw f refl
      | inl t ↦
          let of = and_parts (is_ace h q) (not (q == x.port)) t in
          let apart : q ≢ x.port = λ same. let yes = eq-eqb q x.port same in let bad : false ≡ true = rw yes at of.1 in cc in
          let number = answered-number h past x q a s (λ e. apart (sym e)) (completed-answered h past x q a s.issued part complete of.0 apart) in
          let paid = ltb-false (dvm_completes past q) (answered_syncs past q) (none q low) in
          or_right _ (nat_le (sync_number past x q) (dvm_completes past q)) (le-leb (sync_number past x q) (dvm_completes past q) (omega (arith, number, paid)))
    ])

-- ---- step 13 -----------------------------------------------------------------------------------------

-- Where no port owes a DVM Complete, the port whose last Sync is complete and has had no AC DVM Complete is enabled by step 13.
pub sync-completes : (plan : Plan) (past : Trace) (p : ℕ) (x : Transaction) → AreSteps plan past → ((q : ℕ) → q < plan.header.ports → owes_completion past q ≡ false)
    → last_sync past p ≡ Some x → is_completed past x ≡ true → is_sync_completed past p ≡ false → is_enabled_by (13 ∷ []) plan past p ≡ true
unfolding ac_kind_of
sync-completes plan past p x steps none last complete untold =
    let h = plan.header in
    let a = steps-accepted plan past steps in
    let s = last_sync-is past p x last in
    let part = (sync-at past x s.0.kind).part in
    let ace : is_ace h p ≡ true = subst (λ r. is_ace h r ≡ true) s.1 (message-of-ace h past x a s.0.issued part) in
    let low = (and_parts (nat_lt p h.ports) _ ace).0 in
    let one : k1 h past (Ac p 0 (ac_code snoop.DvmComplete)) ≡ true = and_from _ _ low ace in
    let no_second = next-not-second plan past p steps low in
    let order : k36 h past (Ac p 0 (ac_code snoop.DvmComplete)) ≡ true = rw no_second refl in
    let may : may_complete h past p x ≡ true = and_from _ _ (and_from _ _ complete (ap not untold)) (every-completion h past x a s.0 part complete none) in
    let due : k39 h past (Ac p 0 (ac_code snoop.DvmComplete)) ≡ true = ap (λ o. is_some_and o (may_complete h past p)) last ∙ may in
    let kept : may_give_completion h past p ≡ true = ac-kept h past p 0 (ac_code snoop.DvmComplete) one refl refl refl order due in
    or_left (may_give_completion h past p) _ kept
