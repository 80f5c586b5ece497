-- The looks at the lists of outstanding transactions say what the looks at the whole trace say.
use Rattle.ace_portck.proofs.Terms.{option_or, find, list_any, Channel, Read, Write, Header, AwKind, Transaction, Trace, more, is_some_and, IsAccepted, has_write, transactions, has_had, is_grant, is_completed, is_ordered, updates_memory, evicts, lesser, has_memory_write, is_ace, is_read, is_line, is_on, same_channel, write_kind, issued, outstanding, is_outstanding, is_outstanding_on, transaction_of, transaction_under, acknowledged, acknowledgements, next_complete, Progress, progress_of, last_issued, own_of, first_issued, is_ordered_by_barriers, first_unordered, first_incomplete, is_pending, pending_of, is_ordered_by, is_unordered, is_incomplete}
use Rattle.ace_portck.specs.Transactions.{TransactionsStand}
use Rattle.ace_portck.specs.declared.transactions.Transactions.{Transactions}
use Rattle.std.proofs.Common.{◌≡◌, ◌⊎◌, ℕ, Bool, true, false, not, ◌&&◌, ◌||◌, ◌==◌, cond, List, [], ◌∷◌, map, length, Option, Some, None, is_some, option_map, le_refl, refl, sym, ap, subst, ◌∙◌, inl, inr, arith}
use Rattle.std.proofs.lemmas.Bool.{and_parts, and_from, or_cases, or_left, or_right, cases_Bool, not-true}
use Rattle.std.proofs.Math.Bool.{and-true}
use Rattle.std.proofs.lemmas.List.Folds.{find-append}
use Rattle.ace_model.proofs.General.Options.{Some-injective, is_some_and-is}
use Rattle.ace_model.proofs.Barriers.OrderPoints.{completed-ordered}
use Rattle.ace_model.proofs.Trace.Issued.{issued-place, outstanding-named}
use Rattle.ace_model.proofs.Trace.Growth.{IsIssued, issued-cases, issued-new, issued-old}
use Rattle.ace_model.proofs.Trace.LineOnce.{outstanding_is}
use Rattle.ace_model.proofs.Outstanding.Issued.{transactions-issued, places_rise, some_issued-any}
use Rattle.ace_model.proofs.Outstanding.Lists.{find_kept, any_kept, all_implies, IsSplit, first_split}
use Rattle.ace_model.proofs.Outstanding.Names.{complete_by_name, grant_by_name, memory_by_name}
use Rattle.ace_model.proofs.Outstanding.Only.{IsFound, find-found, found_same, one_outstanding_on, outstanding-find}
use Rattle.ace_model.proofs.Outstanding.Waiting.{waits_is, ended_complete}

-- what the list has under an identifier
pub named_is_found : (h : Header) (past : Trace) (p : ℕ) (c : Channel) (i : ℕ) (list : List Progress)
    → list ≡ map (progress_of h past) (pending_of h past p c)
    → find (λ v. v.transaction.id == i) list ≡ option_map (progress_of h past) (outstanding h past p c i)
named_is_found h past p c i list is =
    ap (find (λ (v : Progress). v.transaction.id == i)) is
    ∙ find_kept (progress_of h past) (is_pending h past p c) (λ v. v.transaction.id == i) (λ x. is_pending h past p c x && (x.id == i))
    (transactions past) (λ x. refl)
    ∙ ap (option_map (progress_of h past)) (outstanding-find h past p c i)

-- the transaction that an acknowledge belongs to is outstanding
pub acknowledged_named : (h : Header) (past : Trace) (p : ℕ) (c : Channel) (i : ℕ) → IsAccepted h past → is_ace h p ≡ true → next_complete past p c ≡ Some i
    → outstanding h past p c i ≡ acknowledged past p c
acknowledged_named h past p c i a ace next =
    let w = waits_is h past p c (acknowledgements past p c) i a ace (le_refl (acknowledgements past p c)) next in
    w.1 ∙ sym (outstanding-named h past p c i w.0 w.1) ∙ ap (transaction_under past p c) (sym next)

-- the last one that passes a test is one that passes it
pub last-found : (past : Trace) (test : Transaction → Bool) → IsFound past test (last_issued past test)
last-found [] test = record { some = λ x e. cc; none = λ e x i t. let b = i.before in absurd (omega arith) }
last-found (e ∷ past) test =
    let old = last-found past test in
    elim (cases_Bool (is_some_and (issued (length past) e) test)) [
      | inl t ↦
          let y = is_some_and-is (issued (length past) e) test t in
          rw (t, y.1) (record {
            some = λ x is. let one = Some-injective y.0 x is in (issued-new e past x (y.1 ∙ is), subst (λ (v : Transaction). test v ≡ true) one y.2);
            none = λ is x i tx. cc;
          })
      | inr f ↦
          rw f (record {
            some = λ x is. let s = old.some x is in (issued-old e past x s.0, s.1);
            none = λ is x i tx. elim (issued-cases e past x i) [
              | inl new ↦ let yes : is_some_and (issued (length past) e) test ≡ true = rw new tx in let no : true ≡ false = sym yes ∙ f in cc
              | inr there ↦ old.none is x there tx
            ];
          })
    ]

option_or-map : {A B : Type 0} → (f : A → B) (a b : Option A) → option_or (option_map f a) (option_map f b) ≡ option_map f (option_or a b)
option_or-map f None b = refl
option_or-map f (Some x) b = refl

channel_cases : (c : Channel) → (same_channel c Read ≡ true) ⊎ (same_channel c Write ≡ true)
channel_cases Read = inl refl
channel_cases Write = inr refl

-- the first one of the trace is the first of the list
first_is_found : (past : Trace) (test : Transaction → Bool) → first_issued past test ≡ option_map (λ (x : Transaction). x.place) (find test (transactions past))
first_is_found [] test = refl
first_is_found (e ∷ past) test = by (issued (length past) e) refl (find test (transactions past)) refl (first_is_found past test)
  where
    by : (o : Option Transaction) → issued (length past) e ≡ o → (f : Option Transaction) → find test (transactions past) ≡ f
        → first_issued past test ≡ option_map (λ (x : Transaction). x.place) (find test (transactions past))
        → first_issued (e ∷ past) test ≡ option_map (λ (x : Transaction). x.place) (find test (more (transactions past) o))
    by None new None found before = rw (before ∙ ap (option_map (λ (x : Transaction). x.place)) found, new, found) refl
    by None new (Some x) found before = rw (before ∙ ap (option_map (λ (x : Transaction). x.place)) found, found) refl
    by (Some y) new None found before =
        let at = issued-place (length past) e y new in
        rw (before ∙ ap (option_map (λ (x : Transaction). x.place)) found, new, find-append test (transactions past) (y ∷ []), found) (last (test y) at)
      where
        last : (t : Bool) → y.place ≡ length past → cond t (Some (length past)) None ≡ option_map (λ (x : Transaction). x.place) (cond t (Some y) None)
        last true at = ap Some (sym at)
        last false at = refl
    by (Some y) new (Some x) found before =
        rw (before ∙ ap (option_map (λ (x : Transaction). x.place)) found, find-append test (transactions past) (y ∷ []), found) refl

-- The looks at both channels of a port.
module _ (h : Header) (past : Trace) (p : ℕ) (q : Transactions) (s : TransactionsStand h past p q) where
  -- an outstanding write of some kind
  pub has_write_is : (test : AwKind → Bool) → has_write h past p test ≡ list_any (λ v. is_some_and (write_kind v.transaction) test) q.writes.list.items
  has_write_is test =
      some_issued-any past (λ y. (y.port == p) && is_some_and (write_kind y) test && is_outstanding h past y)
      ∙ sym (ap (list_any (λ (v : Progress). is_some_and (write_kind v.transaction) test)) s.writes.lists.list_is
      ∙ any_kept (progress_of h past) (is_pending h past p Write) (λ v. is_some_and (write_kind v.transaction) test)
      (λ y. (y.port == p) && is_some_and (write_kind y) test && is_outstanding h past y) (transactions past) same)
    where
      none : (a o : Bool) → ((a && false) && o) ≡ (((a && false) && o) && false)
      none true o = refl
      none false o = refl

      some : (a k o : Bool) → ((a && k) && o) ≡ (((a && true) && o) && k)
      some true true true = refl
      some true true false = refl
      some true false true = refl
      some true false false = refl
      some false k o = refl

      same : (x : Transaction) → ((x.port == p) && is_some_and (write_kind x) test && is_outstanding h past x)
          ≡ (is_pending h past p Write x && is_some_and (write_kind x) test)
      same x =
          elim (cases_Bool (is_read x.chan)) [
            | inl read ↦ rw read (none (x.port == p) (is_outstanding h past x))
            | inr write ↦ rw write (some (x.port == p) _ (is_outstanding h past x))
          ]

  -- the first of the trace that passes a test of outstanding transactions is the first of the two lists
  module _ (test : Transaction → Bool) (look : Progress → Bool)
      (outstanding_one : (x : Transaction) → IsIssued past x → test x ≡ true → ((x.port == p) ≡ true) × (is_outstanding h past x ≡ true))
      (is_look : (x : Transaction) → IsIssued past x → (x.port == p) ≡ true → is_outstanding h past x ≡ true → test x ≡ look (progress_of h past x)) where
    abbrev among : Channel → Transaction → Bool
    among c x = is_pending h past p c x && look (progress_of h past x)

    among-test : (c : Channel) (x : Transaction) → IsIssued past x → among c x ≡ true → (test x ≡ true) × (same_channel x.chan c ≡ true)
    among-test c x i t =
        let a = and_parts (is_pending h past p c x) (look (progress_of h past x)) t in
        let b = and_parts ((x.port == p) && same_channel x.chan c) (is_outstanding h past x) a.0 in
        let d = and_parts (x.port == p) (same_channel x.chan c) b.0 in
        (is_look x i d.0 b.1 ∙ a.1, d.1)

    test-among : (c : Channel) (x : Transaction) → IsIssued past x → same_channel x.chan c ≡ true → test x ≡ true → among c x ≡ true
    test-among c x i chan t =
        let o = outstanding_one x i t in
        and_from _ _ (and_from _ _ (and_from _ _ o.0 chan) o.1) (sym (is_look x i o.0 o.1) ∙ t)

    both_ways : (a b : Bool) → (a ≡ true → b ≡ true) → (b ≡ true → a ≡ true) → a ≡ b
    both_ways true true f g = refl
    both_ways true false f g = sym (f refl)
    both_ways false true f g = g refl
    both_ways false false f g = refl

    one_channel : (c : Channel) → same_channel c Read ≡ true → same_channel c Write ≡ true → ⊥
    one_channel Read r w = cc
    one_channel Write r w = cc

    splits : (x : Transaction) → IsIssued past x → IsSplit test (among Read) (among Write) x
    splits x i = record {
      either = both_ways (test x) (among Read x || among Write x)
          (λ t. elim (channel_cases x.chan) [
            | inl read ↦ or_left (among Read x) (among Write x) (test-among Read x i read t)
            | inr write ↦ or_right (among Read x) (among Write x) (test-among Write x i write t)
          ])
          (λ t. elim (or_cases (among Read x) (among Write x) t) [ inl r ↦ (among-test Read x i r).0 | inr w ↦ (among-test Write x i w).0 ]);
      not_both = λ r. elim (cases_Bool (among Write x)) [
        | inr f ↦ f
        | inl w ↦ absurd (one_channel x.chan (among-test Read x i r).1 (among-test Write x i w).1)
      ];
    }

    place_mapped : (o : Option Transaction) → option_map (λ (v : Progress). v.transaction.place) (option_map (progress_of h past) o) ≡ option_map (λ (x : Transaction). x.place) o
    place_mapped None = refl
    place_mapped (Some x) = refl

    found_in : (c : Channel) (list : List Progress) → list ≡ map (progress_of h past) (pending_of h past p c)
        → find look list ≡ option_map (progress_of h past) (find (among c) (transactions past))
    found_in c list is = ap (find look) is ∙ find_kept (progress_of h past) (is_pending h past p c) look (among c) (transactions past) (λ x. refl)

    in_list : (c : Channel) (list : List Progress) → list ≡ map (progress_of h past) (pending_of h past p c)
        → option_map (λ v. v.transaction.place) (find look list) ≡ option_map (λ (x : Transaction). x.place) (find (among c) (transactions past))
    in_list c list is = ap (option_map (λ (v : Progress). v.transaction.place)) (found_in c list is) ∙ place_mapped (find (among c) (transactions past))

    found_either : (r w : Option Transaction) → IsFound past (among Read) r → IsFound past (among Write) w → IsFound past test (option_or r w)
    found_either (Some y) w fr fw = record {
      some = λ x is. let f = fr.some x is in (f.0, (among-test Read x f.0 f.1).0);
      none = λ is x i t. cc;
    }
    found_either None w fr fw = record {
      some = λ x is. let f = fw.some x is in (f.0, (among-test Write x f.0 f.1).0);
      none = λ is x i t. elim (channel_cases x.chan) [
        | inl read ↦ fr.none refl x i (test-among Read x i read t)
        | inr write ↦ fw.none is x i (test-among Write x i write t)
      ];
    }

    -- where one passes it at most, that is in one of the lists
    one_of_both : ((x y : Transaction) → IsIssued past x → IsIssued past y → test x ≡ true → test y ≡ true → x ≡ y)
        → (o : Option Transaction) → IsFound past test o → option_or (find look q.reads.list.items) (find look q.writes.list.items) ≡ option_map (progress_of h past) o
    one_of_both only o found =
        let r : Option Transaction = find (among Read) (transactions past) in
        let w : Option Transaction = find (among Write) (transactions past) in
        ap (λ v. option_or v (find look q.writes.list.items)) (found_in Read q.reads.list.items s.reads.lists.list_is)
        ∙ ap (option_or (option_map (progress_of h past) r)) (found_in Write q.writes.list.items s.writes.lists.list_is)
        ∙ option_or-map (progress_of h past) r w
        ∙ ap (option_map (progress_of h past))
        (found_same past test (option_or r w) o only (found_either r w (find-found past (among Read)) (find-found past (among Write))) found)

    first_of_both : lesser (option_map (λ v. v.transaction.place) (find look q.reads.list.items)) (option_map (λ v. v.transaction.place) (find look q.writes.list.items)) ≡ first_issued past test
    first_of_both =
        ap (λ o. lesser o (option_map (λ v. v.transaction.place) (find look q.writes.list.items))) (in_list Read q.reads.list.items s.reads.lists.list_is)
        ∙ ap (lesser (option_map (λ (x : Transaction). x.place) (find (among Read) (transactions past)))) (in_list Write q.writes.list.items s.writes.lists.list_is)
        ∙ sym (first_split (λ (x : Transaction). x.place) test (among Read) (among Write) (transactions past) (places_rise past)
        (all_implies (IsIssued past) (IsSplit test (among Read) (among Write)) (transactions past) splits (transactions-issued past)))
        ∙ sym (first_is_found past test)

  -- the port's own transaction on a line
  pub own_is_found : (l : ℕ) → option_or (find (λ v. is_on v.transaction l) q.reads.list.items) (find (λ v. is_on v.transaction l) q.writes.list.items)
      ≡ option_map (progress_of h past) (own_of h past p l)
  own_is_found l =
      one_of_both (is_outstanding_on h past p l) (λ v. is_on v.transaction l)
      (λ x i t.
      let a = and_parts ((x.port == p) && is_on x l) (is_outstanding h past x) t in
      ((and_parts (x.port == p) (is_on x l) a.0).0, a.1))
      (λ x i port out. rw (port, out) (and-true (is_on x l)))
      (λ x y ix iy tx ty. one_outstanding_on h past p l x y s.accepted ix iy tx ty) (own_of h past p l) (last-found past (is_outstanding_on h past p l))

  -- by barriers
  ordered_at : (x : Transaction) → (x.port == p) ≡ true → is_ordered_by_barriers p x ≡ is_ordered_by (progress_of h past x)
  ordered_at x port = rw port refl

  of_name : (x : Transaction) → IsIssued past x → is_outstanding h past x ≡ true → transaction_of past x.port x.chan x.id ≡ Some x
  of_name x i out = outstanding-named h past x.port x.chan x.id x (outstanding_is h past x i out)

  still_out : (x : Transaction) → IsIssued past x → is_completed past x ≡ false → is_outstanding h past x ≡ true
  still_out x i incomplete =
      elim (cases_Bool (is_outstanding h past x)) [
        | inl out ↦ out
        | inr gone ↦ let no : true ≡ false = sym (ended_complete h past x s.accepted i gone) ∙ incomplete in cc
      ]

  ordered_parts : (x : Transaction) (b : Bool) → (is_ordered_by_barriers p x && not b) ≡ true → ((x.port == p) ≡ true) × (is_line x ≡ true) × (b ≡ false)
  ordered_parts x b t =
      let a = and_parts (is_ordered_by_barriers p x) (not b) t in
      let c = and_parts ((x.port == p) && is_line x) (x.bar == 0) a.0 in
      let d = and_parts (x.port == p) (is_line x) c.0 in
      (d.0, d.1, not-true b a.1)

  pub first_unordered_is : lesser (option_map (λ v. v.transaction.place) (find is_unordered q.reads.list.items)) (option_map (λ v. v.transaction.place) (find is_unordered q.writes.list.items))
      ≡ first_unordered past p
  first_unordered_is =
      first_of_both (λ x. is_ordered_by_barriers p x && not (is_ordered past x)) is_unordered
      (λ x i t.
      let parts = ordered_parts x (is_ordered past x) t in (
        parts.0,
        elim (cases_Bool (is_completed past x)) [
          | inr f ↦ still_out x i f
          | inl complete ↦
              let ordered = completed-ordered h x past complete s.accepted i.there parts.1 in
              let no : true ≡ false = sym ordered ∙ parts.2 in cc
        ],
      ))
      (λ x i port out.
      let n = of_name x i out in
      let g = grant_by_name past x.port x.chan x.id x n in
      let m = memory_by_name past x.port x.chan x.id x n in
      ap (λ b. b && not (is_ordered past x)) (ordered_at x port)
      ∙ ap (λ b. is_ordered_by (progress_of h past x) && not (evicts x || (cond (updates_memory x) b (has_had is_grant past x)))) (sym m)
      ∙ ap (λ b. is_ordered_by (progress_of h past x) && not (evicts x || (cond (updates_memory x) (has_memory_write past x.port x.chan x.id) b))) (sym g))

  pub first_incomplete_is : lesser (option_map (λ v. v.transaction.place) (find is_incomplete q.reads.list.items)) (option_map (λ v. v.transaction.place) (find is_incomplete q.writes.list.items))
      ≡ first_incomplete past p
  first_incomplete_is =
      first_of_both (λ x. is_ordered_by_barriers p x && not (is_completed past x)) is_incomplete
      (λ x i t. let parts = ordered_parts x (is_completed past x) t in (parts.0, still_out x i parts.2))
      (λ x i port out.
      let c = complete_by_name past x.port x.chan x.id x (of_name x i out) in
      ap (λ b. b && not (is_completed past x)) (ordered_at x port) ∙ ap (λ b. is_ordered_by (progress_of h past x) && not b) (sym c))

-- an acknowledge belongs to a transaction where one waits
pub acknowledged_some : (h : Header) (past : Trace) (p : ℕ) (c : Channel) → IsAccepted h past → is_ace h p ≡ true
    → is_some (acknowledged past p c) ≡ is_some (next_complete past p c)
acknowledged_some h past p c a ace = by (next_complete past p c) refl
  where
    by : (o : Option ℕ) → next_complete past p c ≡ o → is_some (acknowledged past p c) ≡ is_some (next_complete past p c)
    by None next = rw next refl
    by (Some i) next =
        let w = waits_is h past p c (acknowledgements past p c) i a ace (le_refl (acknowledgements past p c)) next in
        let there = sym (acknowledged_named h past p c i a ace next) ∙ w.1 in
        rw (there, next) refl
