-- A port has at most 256 outstanding transactions on a channel, since their identifiers are apart and each is a byte. So has it at
-- most 256 complete ones that wait.
use Rattle.ace_portck.proofs.Terms.{All, AllPairs, AllByRecursion, filter, Channel, Read, Write, Event, Ar, R, Aw, B, Header, Transaction, Trace, more, IsAccepted, transactions, is_ace, same_channel, issued, outstanding, is_outstanding, acknowledgements, completed, completes, Progress, progress_of, HasByteId, is_pending, pending_of, AreApart}
use Rattle.std.proofs.Common.{◌≡◌, ◌≢◌, ℕ, suc, ◌+◌, ◌-◌, ◌≤◌, ◌<◌, Bool, true, false, ◌&&◌, ◌==◌, List, [], ◌∷◌, ◌++◌, map, length, drop, Option, Some, None, slice_get, get_or, refl, sym, ap, subst, ◌∙◌, inl, inr, arith, length-drop}
use Rattle.std.proofs.lemmas.Bool.{and_parts, cases_Bool, eqb-true, ne_eqb}
use Rattle.std.proofs.lemmas.List.{append-nil, get_or-drop}
use Rattle.std.proofs.lemmas.List.Elements.{All-from_recursion, filter-append}
use Rattle.std.proofs.lemmas.List.Quantifiers.{all_pairs_push}
use Rattle.std.proofs.lemmas.Option.{slice_get-get_or}
use Rattle.ace_model.proofs.General.Lists.{slice_get-more}
use Rattle.ace_model.proofs.General.Options.{Some-injective, some_if-is}
use Rattle.ace_model.proofs.General.Pigeonhole.{few_apart}
use Rattle.ace_model.proofs.Holders.Law.{accepted_holds}
use Rattle.ace_model.proofs.Trace.Issued.{issued-place}
use Rattle.ace_model.proofs.Trace.Growth.{IsIssued, issued-cases, issued-new, issued-old}
use Rattle.ace_model.proofs.Trace.WriteQueue.{write_queue}
use Rattle.ace_model.proofs.Outstanding.Issued.{transactions-issued}
use Rattle.ace_model.proofs.Outstanding.Lists.{all_implies}
use Rattle.ace_model.proofs.Outstanding.Only.{outstanding_at-is}
use Rattle.ace_model.proofs.Trace.Looks.{same_channel-is}

new-below : (n : ℕ) (e : Event) (x : Transaction) → HasByteId e → issued n e ≡ Some x → x.id < 256
new-below n (Ar p i addr snoop dom bar lock) x r s = subst (λ (v : Transaction). v.id < 256) (Some-injective _ x s) r
new-below n (Aw p i addr snoop dom bar) x r s = subst (λ (v : Transaction). v.id < 256) (Some-injective _ x s) r
new-below n _ x r s = cc

issued-below : (past : Trace) (x : Transaction) → AllByRecursion HasByteId past → IsIssued past x → x.id < 256
issued-below [] x r s = let t = s.there in cc
issued-below (e ∷ past) x r s =
    elim (issued-cases e past x s) [ inl new ↦ new-below (length past) e x r.0 new | inr old ↦ issued-below past x r.1 old ]

-- what is known of the kept ones where they pass the test
kept-all : {A : Type 0} → (P : A → Type 0) (test : A → Bool) (xs : List A) → AllByRecursion (λ x. test x ≡ true → P x) xs → AllByRecursion P (filter test xs)
kept-all P test [] all = tt
kept-all P test (x ∷ xs) all =
    let rest = kept-all P test xs all.1 in
    elim (cases_Bool (test x)) [
      | inl t ↦ let here = all.0 t in rw t (here, rest)
      | inr f ↦ rw f rest
    ]

-- two of a longer list
pairs-more : {A : Type 0} → (Q : A → A → Type 0) (test : A → Bool) (xs : List A) (o : Option A) → AllPairs Q (filter test xs)
    → ((y : A) → o ≡ Some y → test y ≡ true → All (λ x. Q x y) (filter test xs)) → AllPairs Q (filter test (more xs o))
pairs-more Q test xs None pairs new = pairs
pairs-more Q test xs (Some y) pairs new =
    let split = filter-append test xs (y ∷ []) in
    elim (cases_Bool (test y)) [
      | inr f ↦ let same : filter test xs ++ filter test (y ∷ []) ≡ filter test xs = rw f (append-nil (filter test xs)) in subst (AllPairs Q) (sym (split ∙ same)) pairs
      | inl t ↦
          let same : filter test xs ++ filter test (y ∷ []) ≡ filter test xs ++ y ∷ [] = rw t refl in
          subst (AllPairs Q) (sym (split ∙ same)) (all_pairs_push Q (filter test xs) y pairs (new y refl t))
    ]

module _ (h : Header) (past : Trace) (p : ℕ) (c : Channel) where
  one_id : (x y : Transaction) → IsIssued past x → IsIssued past y → is_pending h past p c x ≡ true → is_pending h past p c y ≡ true → x.id ≡ y.id → x ≡ y
  one_id x y ix iy px py same =
      Some-injective x y (sym (outstanding_at-is h past p c x ix px) ∙ ap (outstanding h past p c) same ∙ outstanding_at-is h past p c y iy py)

  -- among the transactions up to an earlier point too
  apart : (before : Trace) → ((x : Transaction) → IsIssued before x → IsIssued past x)
      → AllPairs (λ (x y : Transaction). x.id ≢ y.id) (filter (is_pending h past p c) (transactions before))
  apart [] in_past = λ i j d low within. absurd (omega (arith, within))
  apart (e ∷ before) in_past =
      pairs-more (λ x y. x.id ≢ y.id) (is_pending h past p c) (transactions before) (issued (length before) e)
      (apart before (λ x i. in_past x (issued-old e before x i)))
      (λ y new is. All-from_recursion (λ x. x.id ≢ y.id) (filter (is_pending h past p c) (transactions before))
      (kept-all (λ x. x.id ≢ y.id) (is_pending h past p c) (transactions before)
      (all_implies (IsIssued before) (λ x. is_pending h past p c x ≡ true → x.id ≢ y.id) (transactions before)
      (λ x i pending same. other y x new is i pending same) (transactions-issued before))))
    where
      other : (y x : Transaction) → issued (length before) e ≡ Some y → is_pending h past p c y ≡ true → IsIssued before x → is_pending h past p c x ≡ true → x.id ≡ y.id → ⊥
      other y x new py ix px same =
          let one = one_id x y (in_past x (issued-old e before x ix)) (in_past y (issued-new e before y new)) px py same in
          let at = issued-place (length before) e y new in
          let low = ix.before in
          let places = ap (λ (v : Transaction). v.place) one in
          omega (arith, at, low, places)

  -- so there are few
  pub few_pending : AllByRecursion HasByteId past → length (pending_of h past p c) ≤ 256
  few_pending bytes =
      few_apart (λ (x : Transaction). x.id) 256 (pending_of h past p c) (apart past (λ x i. i))
      (All-from_recursion (λ (x : Transaction). x.id < 256) (pending_of h past p c)
      (kept-all (λ x. x.id < 256) (is_pending h past p c) (transactions past)
      (all_implies (IsIssued past) (λ x. is_pending h past p c x ≡ true → x.id < 256) (transactions past)
      (λ x i pending. issued-below past x bytes i) (transactions-issued past))))

  -- as a program keeps them
  others_apart : (j : ℕ) (list : List Transaction) → ((k : ℕ) (d : Transaction) → k < length list → (get_or list k d).id ≢ j)
      → AllByRecursion (λ v. (v.transaction.id == j) ≡ false) (map (progress_of h past) list)
  others_apart j [] other = tt
  others_apart j (x ∷ rest) other =
      (ne_eqb x.id j (other 0 x (omega arith)), others_apart j rest (λ k d lt. other (suc k) d (omega (arith, lt))))

  all_apart : (list : List Transaction) → AllPairs (λ (x y : Transaction). x.id ≢ y.id) list → AllByRecursion (λ x. is_pending h past p c x ≡ true) list
      → AreApart p c (map (progress_of h past) list)
  all_apart [] pairs all = tt
  all_apart (x ∷ rest) pairs all =
      let a = and_parts ((x.port == p) && same_channel x.chan c) (is_outstanding h past x) all.0 in
      let b = and_parts (x.port == p) (same_channel x.chan c) a.0 in (
        eqb-true x.port p b.0,
        same_channel-is x.chan c b.1,
        others_apart x.id rest (λ k d lt same. pairs 0 (suc k) d (omega arith) (omega (arith, lt)) (sym same)),
        all_apart rest (λ i j d low within. pairs (suc i) (suc j) d (omega (arith, low)) (omega (arith, within))) all.1,
      )

  pub are_apart : (list : List Progress) → list ≡ map (progress_of h past) (pending_of h past p c) → AreApart p c list
  are_apart list is =
      subst (AreApart p c) (sym is) (all_apart (pending_of h past p c) (apart past (λ x i. i))
      (kept-all (λ x. is_pending h past p c x ≡ true) (is_pending h past p c) (transactions past)
      (all_implies (IsIssued past) (λ x. is_pending h past p c x ≡ true → is_pending h past p c x ≡ true) (transactions past)
      (λ x i t. t) (transactions-issued past))))

completes-below : (e : Event) (p : ℕ) (c : Channel) (i : ℕ) → HasByteId e → completes e p c ≡ Some i → i < 256
completes-below (R q j resp last word) p c i b is = subst (λ v. v < 256) (some_if-is _ j i is).1 b
completes-below (B q j resp) p c i b is = subst (λ v. v < 256) (some_if-is _ j i is).1 b
completes-below _ p c i b is = cc

completed-below : (past : Trace) (p : ℕ) (c : Channel) (k i : ℕ) → AllByRecursion HasByteId past → slice_get (completed past p c) k ≡ Some i → i < 256
completed-below [] p c k i b is = cc
completed-below (e ∷ past) p c k i b is =
    elim (slice_get-more (completed past p c) (completes e p c) k i is) [
      | inl old ↦ completed-below past p c k i b.1 old
      | inr new ↦ completes-below e p c i b.0 new.1
    ]

-- no identifier waits twice
waits_once : (h : Header) (past : Trace) (p : ℕ) (c : Channel) (m n i : ℕ) → IsAccepted h past → is_ace h p ≡ true
    → acknowledgements past p c ≤ m → acknowledgements past p c ≤ n
    → slice_get (completed past p c) m ≡ Some i → slice_get (completed past p c) n ≡ Some i → m ≡ n
waits_once h past p Read m n i a ace low_m low_n em en = (accepted_holds h past a).distinct p m n i ace low_m low_n em en
waits_once h past p Write m n i a ace low_m low_n em en = (write_queue h past a p ace).distinct m n i low_m low_n em en

pub few_waiting : (h : Header) (past : Trace) (p : ℕ) (c : Channel) → IsAccepted h past → AllByRecursion HasByteId past → is_ace h p ≡ true
    → length (drop (acknowledgements past p c) (completed past p c)) ≤ 256
few_waiting h past p c a bytes ace = few_apart (λ i. i) 256 waiting (λ i j d low within same. twice i j d low within same) below
  where
    done : List ℕ
    done = completed past p c

    first : ℕ
    first = acknowledgements past p c

    waiting : List ℕ
    waiting = drop first done

    at : (k d : ℕ) → k < length waiting → slice_get done (first + k) ≡ Some (get_or waiting k d)
    at k d b =
        let count : length waiting ≡ length done - first = length-drop first done in
        slice_get-get_or done (first + k) d (omega (arith, b, count)) ∙ ap Some (sym (get_or-drop first done k d))

    below : (k d : ℕ) → k < length waiting → get_or waiting k d < 256
    below k d b = completed-below past p c (first + k) (get_or waiting k d) bytes (at k d b)

    twice : (i j d : ℕ) → i < j → j < length waiting → get_or waiting i d ≡ get_or waiting j d → ⊥
    twice i j d low within same =
        let one = waits_once h past p c (first + i) (first + j) (get_or waiting j d) a ace (omega arith) (omega arith)
        (at i d (omega (arith, low, within)) ∙ ap Some same) (at j d within) in
        omega (arith, one, low)
