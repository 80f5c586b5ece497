-- The first part of a message that is the next for some port is outstanding: that port hasn't answered it, and each other ACE port answers a part
-- before it is complete.
use Rattle.std.proofs.Common.{◌≡◌, ℕ, ◌≢◌, zero, suc, Bool, true, false, ◌||◌, ◌==◌, List, [], ◌∷◌, ◌++◌, length, filter, map, slice_get, Some, refl, sym, ap, subst, ◌∙◌, inl, inr}
use Rattle.std.specs.List.{AllPairs, list_any}
use Rattle.std.proofs.lemmas.Bool.{and_from, cases_Bool, eq-eqb, false_from_ne_true, or_left, or_right}
use Rattle.std.proofs.lemmas.List.{append_assoc}
use Rattle.std.proofs.lemmas.List.Elements.{All-get_or}
use Rattle.std.proofs.lemmas.Option.{get_or_from_slice_get, slice_get_within}
use Rattle.ace_event.specs.declared.event.Channel.TheVariants.{Read}
use Rattle.ace_event.specs.declared.header.Header.{Header}
use Rattle.ace_model.specs.declared.transactions.Transaction.{Transaction}
use Rattle.ace_model.specs.Accepted.{IsAccepted}
use Rattle.ace_model.specs.Messages.{forwarded, has_answered, is_message_part, parts_among, parts_for}
use Rattle.ace_model.specs.Progress.{is_completed, transactions}
use Rattle.ace_model.specs.Trace.{Trace}
use Rattle.ace_model.specs.Transactions.{is_outstanding, same_channel}
use Rattle.ace_model.proofs.Dvm.Answered.{complete_part-answered}
use Rattle.ace_model.proofs.Outstanding.Issued.{issued-place_in}
use Rattle.ace_model.proofs.Trace.Looks.{is_read-is}
use Rattle.ace_runs.proofs.NeverStuck.Barriers.Responses.{dvm-reads}
use Rattle.ace_runs.proofs.NeverStuck.Messages.AnsweredMessages.{answered-forwarded}
use Rattle.ace_portck.specs.declared.target.Progress.{Progress}
use Rattle.ace_portck.specs.Pending.{is_pending, pending_of}
use Rattle.ace_portck.specs.Targets.{progress_of}
use Rattle.ace_sysck.specs.declared.inboxes.Message.{Message}
use Rattle.ace_sysck.proofs.Forwarding.InboxMoves.{IsPartFor, parts-are}
use Rattle.ace_sysck.proofs.Forwarding.InboxRules.{apart_parts}
use Rattle.ace_sysck.proofs.PartLaws.{parts-apart}
use Rattle.ace_sysck.proofs.Unanswered.{still-outstanding}
use Rattle.ace_order.specs.Messages.{parts_of}
use Rattle.ace_order.proofs.NextMessages.{Gets, parts-next}

-- an element that passes both tests
pub found-in : (f g : Transaction → Bool) (xs : List Transaction) (k : ℕ) (x : Transaction) → slice_get xs k ≡ Some x → f x ≡ true → g x ≡ true
    → list_any g (filter f xs) ≡ true
found-in f g [] k x at passes is = cc
found-in f g (y ∷ xs) zero x at passes is =
    let same : y ≡ x = cc in
    rw (same, passes) (or_left (g x) _ is)
found-in f g (y ∷ xs) (suc k) x at passes is =
    elim (cases_Bool (f y)) [
      | inl t ↦ rw t (or_right (g y) _ (found-in f g xs k x at passes is))
      | inr n ↦ rw n (found-in f g xs k x at passes is)
    ]

-- what is told of transactions names them
pub any-told : (h : Header) (past : Trace) (xs : List Transaction)
    → list_any (λ (x : Progress). is_message_part x.transaction) (map (progress_of h past) xs) ≡ list_any is_message_part xs
any-told h past [] = refl
any-told h past (x ∷ xs) = ap (λ b. is_message_part x || b) (any-told h past xs)

module _ (h : Header) (past : Trace) (q : ℕ) (m : Message) (g : Gets h past q m) (a : IsAccepted h past) where
  is-part : IsPartFor past q m.first
  is-part =
      let k = length (parts_among (forwarded past q)) in
      subst (IsPartFor past q) (get_or_from_slice_get (parts_for past q) k m.first m.first g.next)
      (All-get_or (IsPartFor past q) (parts_for past q) k m.first (slice_get_within (parts_for past q) k m.first g.next) (parts-are past q))

  not-answered : has_answered past m.first q ≡ false
  not-answered =
      let done = parts_among (forwarded past q) in
      let all = parts-next h past q m g in
      let joined : parts_for past q ≡ done ++ (parts_of m ++ all.0) = all.1 ∙ append_assoc done (parts_of m) all.0 in
      let apart : AllPairs (λ (y : Transaction) (z : Transaction). y.place ≢ z.place) (done ++ (parts_of m ++ all.0)) =
      subst (λ l. AllPairs (λ (y : Transaction) (z : Transaction). y.place ≢ z.place) l) joined (parts-apart past q) in
      false_from_ne_true (has_answered past m.first q) (λ had.
      let none = apart_parts done (parts_of m ++ all.0) m.first apart (answered-forwarded past m.first q had) in
      let bad : true ≡ false = sym (or_left (m.first.place == m.first.place) _ (eq-eqb m.first.place m.first.place refl)) ∙ none in cc)

  incomplete : is_completed past m.first ≡ false
  incomplete = false_from_ne_true (is_completed past m.first) (λ done.
      let had = complete_part-answered h m.first q is-part.part g.ace (λ same. is-part.other (sym same)) past done a is-part.there.there in
      let bad : true ≡ false = sym had ∙ not-answered in cc)

  reads : m.first.chan ≡ Read
  reads = is_read-is m.first.chan (dvm-reads m.first (or_left (is_message_part m.first) _ is-part.part))

  is-out : is_outstanding h past m.first ≡ true
  is-out = still-outstanding h past m.first a is-part.there reads incomplete

  -- it is among the outstanding reads of its port
  pub next-pending : list_any is_message_part (pending_of h past m.first.port Read) ≡ true
  next-pending =
      let at = issued-place_in past m.first is-part.there in
      let own : (m.first.port == m.first.port) ≡ true = eq-eqb m.first.port m.first.port refl in
      let read : same_channel m.first.chan Read ≡ true = ap (λ c. same_channel c Read) reads in
      let both : is_pending h past m.first.port Read m.first ≡ true = and_from _ _ (and_from _ _ own read) is-out in
      found-in (is_pending h past m.first.port Read) is_message_part (transactions past) at.0 m.first at.1 both is-part.part
