-- The DVM Completes of a port come after its answers to the Syncs that they complete.
use Rattle.std.proofs.Common.{◌≡◌, ◌≢◌, ℕ, ◌-◌, ◌≤◌, ◌<◌, Bool, true, ◌&&◌, cond, nat_eq, List, [], ◌∷◌, ◌++◌, length, length-append, slice_get, count_by, Option, Some, None, refl, ap, ◌∙◌, arith, inl, inr}
use Rattle.std.specs.List.{All}
use Rattle.std.proofs.lemmas.Bool.{cases_Bool, cases_lt, and_parts, eq-eqb, eqb-true, ltb-true}
use Rattle.std.proofs.lemmas.List.Elements.{All-weaker}
use Rattle.std.proofs.lemmas.List.Sums.{sum_by_push}
use Rattle.ace_model.proofs.Terms.{Event, Header, Transaction, Trace, at_point, more, issued, transactions, IsTransaction, is_sync, parts_for, is_dvm_completion, dvm_completes, answered_parts, answered_syncs, has_answered, HasCompleted}
use Rattle.ace_model.proofs.Terms.{k38, owes_completion, IsAccepted}
use Rattle.ace_model.proofs.Rules.Keeps.{accepted_keeps}
use Rattle.ace_model.proofs.General.Lists.{IsStart, start-trans, start-both, start-all, start-any, any-right, count_by-agree, count_by-start, slice_get-at_end, start-more, slice_get-start}
use Rattle.ace_model.proofs.Trace.Issued.{issued-place}
use Rattle.ace_model.proofs.Trace.Growth.{at_point-before}
use Rattle.ace_model.proofs.Trace.Places.{at_point-last, at_point-length, at_point-twice}
use Rattle.ace_model.proofs.Dvm.Parts.{IsBelow, parts-placed, parts-before}
use Rattle.ace_model.proofs.Dvm.Forwarding.{answered-first}
use Rattle.ace_model.proofs.Dvm.Syncs.{IsSyncIn, sync-next}
use Rattle.ace_model.proofs.General.Options.{is_none_or-at}
use Rattle.ace_model.proofs.General.Booleans.{implies-at}

-- the DVM Complete of the port that so many came before: the port had answered more Syncs by then
pub record IsOwed (past : Trace) (q m : ℕ) : Type 0 where
  pub completion : Transaction
  pub there : IsTransaction past completion
  pub kind : is_dvm_completion completion ≡ true
  pub port : completion.port ≡ q
  pub before : completion.place < length past
  pub answered : m < answered_syncs (at_point completion.place past) q

-- it is owed in a longer trace too
owed-grown : (e : Event) (past : Trace) (q m : ℕ) → IsOwed past q m → IsOwed (e ∷ past) q m
owed-grown e past q m o = record {
  completion = o.completion;
  there = (o.there.0, slice_get-start (transactions past) (transactions (e ∷ past)) o.there.0 o.completion (start-more (transactions past) (issued (length past) e)) o.there.1);
  kind = o.kind;
  port = o.port;
  before = let b = o.before in omega arith;
  answered = let b = o.before in let a = o.answered in rw (at_point-before e past o.completion.place (omega arith)) a;
}

-- what the rule on DVM Completes says of one that the event issues
owed-now : (h : Header) (e : Event) (past : Trace) (x : Transaction) (q m : ℕ)
    → issued (length past) e ≡ Some x → is_dvm_completion x ≡ true → x.port ≡ q → m ≡ dvm_completes past q → k38 h past e ≡ true → IsOwed (e ∷ past) q m
owed-now h e past x q m new kind port count k =
    let place = issued-place (length past) e x new in
    let owes = implies-at (is_dvm_completion x) _ (is_none_or-at (issued (length past) e) (owes_completion past) x k new) kind in
    record {
      completion = x;
      there = (length (transactions past), ap (λ o. slice_get (more (transactions past) o) (length (transactions past))) new ∙ slice_get-at_end (transactions past) (length (transactions past)) x refl);
      kind = kind;
      port = port;
      before = omega (arith, place);
      answered = rw (at_point-last e past x.place place, count, ← port) (ltb-true _ _ owes);
    }

-- where a count passes m with one more transaction, this one passes the test
completes-more : (xs : List Transaction) (new : Option Transaction) (test : Transaction → Bool) (m : ℕ) → m < count_by test (more xs new) → count_by test xs ≤ m
    → (x : Transaction) × (new ≡ Some x) × (test x ≡ true) × (m ≡ count_by test xs)
completes-more xs None test m lt le = absurd (omega arith)
completes-more xs (Some x) test m lt le =
    let sum = sum_by_push (λ y. cond {A = ℕ} (test y) 1 0) xs x in
    elim (cases_Bool (test x)) [
      | inl t ↦ let is : cond {A = ℕ} (test x) 1 0 ≡ 1 = rw t refl in (x, refl, t, omega arith)
      | inr f ↦ let is : cond {A = ℕ} (test x) 1 0 ≡ 0 = rw f refl in absurd (omega arith)
    ]

-- in an accepted trace each DVM Complete of a port is owed
pub completes-owed : (h : Header) (past : Trace) (q m : ℕ) → IsAccepted h past → m < dvm_completes past q → IsOwed past q m
completes-owed h [] q m a lt = absurd (omega arith)
completes-owed h (e ∷ past) q m a lt =
    elim (cases_lt m (dvm_completes past q)) [
      | inl old ↦ owed-grown e past q m (completes-owed h past q m a.0 old)
      | inr new ↦
          let x = completes-more (transactions past) (issued (length past) e) (λ x. is_dvm_completion x && nat_eq x.port q) m lt new in
          let parts = and_parts (is_dvm_completion x.0) (nat_eq x.0.port q) x.2 in
          owed-now h e past x.0 q m x.1 parts.0 (eqb-true x.0.port q parts.1) x.3 (accepted_keeps h past e a).rule_38
    ]

-- a port that has answered more Syncs than were for it before this one has answered this one
answered-by_count : (h : Header) (past : Trace) (x : Transaction) (q n : ℕ) → IsAccepted h past → IsSyncIn past x → x.port ≢ q → n ≤ length past
    → count_by (is_sync past) (parts_for (at_point x.place past) q) < answered_syncs (at_point n past) q → has_answered (at_point n past) x q ≡ true
answered-by_count h past x q n a s other within lt =
    let then = at_point n past in
    let first = parts_for (at_point x.place past) q in
    let answered = answered_parts then q in
    let all = parts_for past q in
    let long = at_point-length past n within in
    let upto = sync-next h past x q a s other in
    let start : IsStart answered all = start-trans answered (parts_for then q) all (answered-first then q) (parts-before (length past - n) past q) in
    let longer = length-append first (x ∷ []) in
    elim (cases_lt (length first) (length answered)) [
      | inl many ↦
          start-any (λ y. nat_eq y.place x.place) (first ++ x ∷ []) answered (start-both (first ++ x ∷ []) answered all upto start (omega arith))
          (any-right (λ y. nat_eq y.place x.place) first (x ∷ []) (rw (eq-eqb x.place x.place refl) refl))
      | inr few ↦
          let below : All (IsBelow (length then)) answered = start-all (IsBelow (length then)) answered (parts_for then q) (answered-first then q) (parts-placed then q) in
          let same = count_by-agree (is_sync then) (is_sync past) answered
          (All-weaker (IsBelow (length then)) (λ y. is_sync then y ≡ is_sync past y) (λ y low. rw (at_point-twice past y.place n (omega arith) within) refl) answered below) in
          let fewer = count_by-start (is_sync past) answered first
          (start-both answered first all start (parts-before (length past - x.place) past q) few) in
          absurd (omega arith)
    ]

-- a port that has issued more DVM Completes than Syncs were for it before this one has completed this one
pub sync-completed : (h : Header) (past : Trace) (x : Transaction) (q : ℕ) → IsAccepted h past → IsSyncIn past x → x.port ≢ q
    → count_by (is_sync past) (parts_for (at_point x.place past) q) < dvm_completes past q → HasCompleted past x q
sync-completed h past x q a s other lt =
    let o = completes-owed h past q (count_by (is_sync past) (parts_for (at_point x.place past) q)) a lt in
    let low = o.before in
    (o.completion, o.there, o.kind, o.port, answered-by_count h past x q o.completion.place a s other (omega arith) o.answered)
