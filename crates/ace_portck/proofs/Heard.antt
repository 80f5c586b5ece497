-- The outstanding transactions of a port on a channel after an event.
use Rattle.ace_portck.proofs.Terms.{AllByRecursion, filter, Channel, Event, Ar, R, Aw, B, Header, Transaction, Trace, port_of, is_some_and, more, IsAccepted, transactions, is_ace, same_channel, is_transaction, issued, ended, is_outstanding, acknowledgements, completed, Progress, progress_of, begun, Pending, IsHeard, deque_capacity, HasByteId, PendingStands, completed_by, is_pending, pending_of, renewed, ending_of, waiting_after, on_channel, without_id}
use Rattle.std.proofs.Common.{◌≡◌, ℕ, ◌≤◌, ◌<◌, Bool, true, false, not, ◌&&◌, nat_eq, List, [], ◌∷◌, ◌++◌, map, length, drop, Option, Some, None, option_map, refl, sym, ap, ◌∙◌, inl, inr, arith}
use Rattle.std.proofs.lemmas.Bool.{and_parts, cases_Bool, eq-eqb}
use Rattle.std.proofs.lemmas.List.{append-nil, map-append, length-map, length-append}
use Rattle.std.proofs.lemmas.List.Elements.{filter-append}
use Rattle.ace_model.proofs.General.Options.{Some-injective}
use Rattle.ace_model.proofs.Trace.Growth.{IsIssued}
use Rattle.ace_model.proofs.Trace.LineOnce.{outstanding_is}
use Rattle.ace_model.proofs.Outstanding.Issued.{transactions-issued}
use Rattle.ace_model.proofs.Outstanding.Lists.{IsRenewed, kept_renewed, all_implies}
use Rattle.ace_model.proofs.Outstanding.Only.{outstanding_at-is}
use Rattle.ace_model.proofs.Outstanding.Steps.{outstanding_after, outstanding_new_one}
use Rattle.ace_portck.proofs.Few.{few_pending, few_waiting}
use Rattle.ace_portck.specs.Pending.{IsRoomy}
use Rattle.ace_portck.proofs.Renewed.{renewed_is}
use Rattle.ace_portck.proofs.Ending.{ends_is, waiting-after}

-- whether a transaction stays
abbrev stays : Option ℕ → Progress → Bool
stays gone v = not (is_some_and gone (λ i. nat_eq v.transaction.id i))

-- the port of an event is that of the transaction that it issues
pub issued-port : (n : ℕ) (e : Event) (p : ℕ) (y : Transaction) → issued n e ≡ Some y → port_of e ≡ Some p → y.port ≡ p
issued-port n (Ar q j addr snoop dom bar lock) p y new own = ap (λ (v : Transaction). v.port) (sym (Some-injective _ y new)) ∙ Some-injective q p own
issued-port n (Aw q j addr snoop dom bar) p y new own = ap (λ (v : Transaction). v.port) (sym (Some-injective _ y new)) ∙ Some-injective q p own
issued-port n e p y new own = cc

-- what has just been issued has come nowhere
begun_is : (h : Header) (past : Trace) (e : Event) (y : Transaction) → issued (length past) e ≡ Some y → progress_of h (e ∷ past) y ≡ begun y
begun_is h past (Ar q j addr snoop dom bar lock) y new =
    let same = Some-injective _ y new in rw (← same) (rw (eq-eqb q q refl, eq-eqb j j refl) refl)
begun_is h past (Aw q j addr snoop dom bar) y new =
    let same = Some-injective _ y new in rw (← same) (rw (eq-eqb q q refl, eq-eqb j j refl) refl)
begun_is h past e y new = cc

module _ (h : Header) (past : Trace) (e : Event) (p : ℕ) (c : Channel) (waiting : List ℕ) (accepted : IsAccepted h (e ∷ past)) (own : port_of e ≡ Some p)
    (waiting_is : is_ace h p ≡ true → waiting ≡ drop (acknowledgements past p c) (completed past p c)) where
  abbrev pub gone : Option ℕ
  gone = ending_of waiting (is_ace h p) c e

  -- what was issued before
  old_one : (x : Transaction) → IsIssued past x
      → IsRenewed (progress_of h past) (progress_of h (e ∷ past)) (renewed e) (stays gone) (is_pending h past p c) (is_pending h (e ∷ past) p c) x
  old_one x i =
      let after = outstanding_after h past e x accepted i in
      record {
        out = λ f. rw after (tests (nat_eq x.port p) (same_channel x.chan c) (is_outstanding h past x) (is_transaction (ended h past e) x) f);
        kept = λ t.
            let out = outstanding_at-is h past p c x i t in
            let ends = ends_is h past e p c waiting x accepted own waiting_is out in
            let a = and_parts (nat_eq x.port p && same_channel x.chan c) (is_outstanding h past x) t in
            let keeps : (renewed e (progress_of h past x)).transaction ≡ x = sym (ap (λ (v : Progress). v.transaction) (renewed_is h past x (outstanding_is h past x i a.1) e accepted)) in
            rw (keeps, ends) (rw (a.0, after, a.1) refl);
        same = λ u.
            let a = and_parts (nat_eq x.port p && same_channel x.chan c) (is_outstanding h (e ∷ past) x) u in
            let was : is_outstanding h past x ≡ true = (and_parts (is_outstanding h past x) (not (is_transaction (ended h past e) x)) (sym after ∙ a.1)).0 in
            sym (renewed_is h past x (outstanding_is h past x i was) e accepted);
      }
    where
      tests : (a b o t : Bool) → ((a && b) && o) ≡ false → ((a && b) && (o && not t)) ≡ false
      tests true true o t f = rw f refl
      tests true false o t f = refl
      tests false b o t f = refl

  old_ones : without_id gone (map (renewed e) (map (progress_of h past) (pending_of h past p c)))
      ≡ map (progress_of h (e ∷ past)) (filter (is_pending h (e ∷ past) p c) (transactions past))
  old_ones =
      kept_renewed (progress_of h past) (progress_of h (e ∷ past)) (renewed e) (stays gone) (is_pending h past p c) (is_pending h (e ∷ past) p c) (transactions past)
      (all_implies (IsIssued past) (IsRenewed (progress_of h past) (progress_of h (e ∷ past)) (renewed e) (stays gone) (is_pending h past p c) (is_pending h (e ∷ past) p c))
      (transactions past) old_one (transactions-issued past))

  -- and what is issued now
  new_one : (o : Option Transaction) → issued (length past) e ≡ o
      → more (map (progress_of h (e ∷ past)) (filter (is_pending h (e ∷ past) p c) (transactions past))) (option_map begun (on_channel c o))
      ≡ map (progress_of h (e ∷ past)) (filter (is_pending h (e ∷ past) p c) (more (transactions past) o))
  new_one None new = refl
  new_one (Some y) new =
      let kept : List Transaction = filter (is_pending h (e ∷ past) p c) (transactions past) in
      let split = filter-append (is_pending h (e ∷ past) p c) (transactions past) (y ∷ []) in
      let out = outstanding_new_one h past e y new in
      let port : nat_eq y.port p ≡ true = eq-eqb y.port p (issued-port (length past) e p y new own) in
      elim (cases_Bool (same_channel y.chan c)) [
        | inr f ↦
            let none : kept ++ filter (is_pending h (e ∷ past) p c) (y ∷ []) ≡ kept = rw (port, f) (append-nil kept) in
            rw f (ap (map (progress_of h (e ∷ past))) (sym (split ∙ none)))
        | inl t ↦
            let one : kept ++ filter (is_pending h (e ∷ past) p c) (y ∷ []) ≡ kept ++ y ∷ [] = rw (port, t, out) refl in
            let begins : map (progress_of h (e ∷ past)) (y ∷ []) ≡ begun y ∷ [] = rw (begun_is h past e y new) refl in
            rw t (ap (λ l. map (progress_of h (e ∷ past)) kept ++ l) (sym begins) ∙ sym (map-append (progress_of h (e ∷ past)) kept (y ∷ []))
            ∙ ap (map (progress_of h (e ∷ past))) (sym (split ∙ one)))
      ]

  pub lists_heard : (list : List Progress) → list ≡ map (progress_of h past) (pending_of h past p c)
      → more (without_id gone (map (renewed e) list)) (option_map begun (on_channel c (issued (length past) e)))
      ≡ map (progress_of h (e ∷ past)) (pending_of h (e ∷ past) p c)
  lists_heard list is =
      let old : without_id gone (map (renewed e) list) ≡ map (progress_of h (e ∷ past)) (filter (is_pending h (e ∷ past) p c) (transactions past)) =
      rw is old_ones in
      rw old (new_one (issued (length past) e) refl)

  pub waiting_heard : is_ace h p ≡ true → waiting_after waiting (is_ace h p) c e ≡ drop (acknowledgements (e ∷ past) p c) (completed (e ∷ past) p c)
  waiting_heard ace = rw ace (waiting-after h past e p c waiting accepted own (waiting_is ace))

completed-more : (e : Event) (c : Channel) (waiting : List ℕ) (i : ℕ) → completed_by e c ≡ Some i → waiting_after waiting true c e ≡ waiting ++ i ∷ []
completed-more (R q j resp last word) c waiting i is = rw is refl
completed-more (B q j resp) c waiting i is = rw is refl
completed-more e c waiting i is = cc

-- What is kept after an event, by what the steps of the fold leave.
pub pending_heard : (h : Header) (past : Trace) (e : Event) (p : ℕ) (c : Channel) (place room : ℕ) (s t : Pending) (kept : List Progress)
    → IsHeard h past place e p → AllByRecursion HasByteId (e ∷ past) → PendingStands h past p c s
    → kept ≡ without_id (ending_of s.waiting.items (is_ace h p) c e) (map (renewed e) s.list.items) → 256 ≤ room
    → (length kept < room → t.list.items ≡ more kept (option_map begun (on_channel c (issued place e))))
    → (on_channel c (issued place e) ≡ None → t.list.items ≡ kept)
    → (length s.waiting.items < deque_capacity s.waiting → t.waiting.items ≡ waiting_after s.waiting.items (is_ace h p) c e)
    → (completed_by e c ≡ None → t.waiting.items ≡ waiting_after s.waiting.items (is_ace h p) c e)
    → IsRoomy t → PendingStands h (e ∷ past) p c t
pending_heard h past e p c place room s t kept heard bytes stands kept_is roomy grows same waits idle fits = record {
  lists = record { list_is = list (on_channel c (issued place e)) refl; waiting_is = λ ace. waiting ace (completed_by e c) refl };
  roomy = fits;
}
  where
    whole : more kept (option_map begun (on_channel c (issued place e))) ≡ map (progress_of h (e ∷ past)) (pending_of h (e ∷ past) p c)
    whole =
        ap (λ l. more l (option_map begun (on_channel c (issued place e)))) kept_is
        ∙ ap (λ n. more (without_id (ending_of s.waiting.items (is_ace h p) c e) (map (renewed e) s.list.items)) (option_map begun (on_channel c (issued n e)))) heard.place_is
        ∙ lists_heard h past e p c s.waiting.items heard.accepted heard.port stands.lists.waiting_is s.list.items stands.lists.list_is

    list : (o : Option Transaction) → on_channel c (issued place e) ≡ o → t.list.items ≡ map (progress_of h (e ∷ past)) (pending_of h (e ∷ past) p c)
    list None is = same is ∙ sym (ap (λ o. more kept (option_map begun o)) is) ∙ whole
    list (Some y) is =
        let long : more kept (option_map begun (on_channel c (issued place e))) ≡ kept ++ begun y ∷ [] = ap (λ o. more kept (option_map begun o)) is in
        let few = few_pending h (e ∷ past) p c bytes in
        let count : length (kept ++ begun y ∷ []) ≡ length (pending_of h (e ∷ past) p c) =
        ap length (sym long ∙ whole) ∙ length-map (pending_of h (e ∷ past) p c) (progress_of h (e ∷ past)) in
        let one = length-append kept (begun y ∷ []) in
        grows (omega (arith, few, count, one, roomy)) ∙ whole

    after : is_ace h p ≡ true → waiting_after s.waiting.items (is_ace h p) c e ≡ drop (acknowledgements (e ∷ past) p c) (completed (e ∷ past) p c)
    after ace = waiting_heard h past e p c s.waiting.items heard.accepted heard.port stands.lists.waiting_is ace

    waiting : is_ace h p ≡ true → (o : Option ℕ) → completed_by e c ≡ o → t.waiting.items ≡ drop (acknowledgements (e ∷ past) p c) (completed (e ∷ past) p c)
    waiting ace None is = idle is ∙ after ace
    waiting ace (Some i) is =
        let few = few_waiting h (e ∷ past) p c heard.accepted bytes ace in
        let long : waiting_after s.waiting.items (is_ace h p) c e ≡ s.waiting.items ++ i ∷ [] =
        ap (λ b. waiting_after s.waiting.items b c e) ace ∙ completed-more e c s.waiting.items i is in
        let count : length (s.waiting.items ++ i ∷ []) ≡ length (drop (acknowledgements (e ∷ past) p c) (completed (e ∷ past) p c)) = ap length (sym long ∙ after ace) in
        let one = length-append s.waiting.items (i ∷ []) in
        let room = stands.roomy.waiting in
        waits (omega (arith, few, count, one, room)) ∙ after ace
