-- The store that a MakeUnique lacks, its acknowledge, and what ends the operation then, break no rule.
use Rattle.std.proofs.Common.{◌≡◌, ℕ, true, false, not, ◌&&◌, nat_lt, ◌∷◌, slice_get, Some, refl, sym, ap, ◌∙◌, le_refl}
use Rattle.std.proofs.Math.Bool.{and-false}
use Rattle.std.proofs.lemmas.Bool.{and_from, and_parts, eq-eqb, or_left, or_right}
use Rattle.ace_codes.specs.declared.kind.ArKind.TheVariants as read
use Rattle.ace_codes.specs.declared.state.LineState.{LineState}
use Rattle.ace_event.specs.declared.event.Channel.{Channel}
use Rattle.ace_event.specs.declared.event.Channel.TheVariants.{Read}
use Rattle.ace_event.specs.declared.event.Event.{Event}
use Rattle.ace_event.specs.declared.event.Event.TheVariants.{D, Rk}
use Rattle.ace_event.specs.declared.event.Outcome.TheVariants.{Ok}
use Rattle.ace_event.specs.declared.header.Header.{Header}
use Rattle.ace_event.specs.declared.line.Line.{Line}
use Rattle.ace_model.specs.declared.plans.Op.TheVariants as op
use Rattle.ace_model.specs.declared.transactions.Transaction.{Transaction}
use Rattle.ace_model.specs.Accepted.{IsAccepted}
use Rattle.ace_model.specs.AddressRules.{is_aligned, k1, k3}
use Rattle.ace_model.specs.CacheRules.{k32, k33, may_store, wants_store}
use Rattle.ace_model.specs.Kinds.{is_make_unique}
use Rattle.ace_model.specs.Plans.{IsRight, Plan}
use Rattle.ace_model.specs.States.{awaits_store, has_store}
use Rattle.ace_model.specs.Trace.{Trace, is_some_and}
use Rattle.ace_model.specs.Transactions.{acknowledgements, is_ace, is_complete, is_make_unique_on, outstanding, read_kind}
use Rattle.ace_model.specs.Values.{full_line}
use Rattle.ace_model.proofs.Outstanding.Waiting.{waits_is}
use Rattle.ace_model.proofs.Trace.Growth.{some_issued-found}
use Rattle.ace_model.proofs.Trace.Issued.{transaction_of-name}
use Rattle.ace_model.proofs.Trace.Outstanding.{acknowledged_is}
use Rattle.ace_runs.specs.Bursts.{are_kept, is_kept}
use Rattle.ace_runs.specs.Closing.{closing_of}
use Rattle.ace_runs.specs.Follows.{FollowsSoFar}
use Rattle.ace_runs.specs.MasterSteps.{end_of}
use Rattle.ace_runs.specs.Operations.{next_operation}
use Rattle.ace_runs.specs.Retiring.{may_retire}
use Rattle.ace_runs.specs.Segments.{segment}
use Rattle.ace_runs.proofs.Accepting.{four-kept, kept-breaks-none}
use Rattle.ace_runs.proofs.NeverStuck.Operations.Kept.ClosingKept.{retirement-kept}
use Rattle.ace_runs.proofs.NeverStuck.Operations.Lines.OfPlan.{next-planned}
use Rattle.ace_runs.proofs.NeverStuck.Steps.SameEvents.{same-line-self}
use Rattle.ace_master_laws.specs.Orderly.{brings_line, takes_line}
use Rattle.ace_master_laws.proofs.Acknowledges.Due.{IsDue, due-is}
use Rattle.ace_master_laws.proofs.Acknowledges.Filling.{acknowledged-same, fill-ends}
use Rattle.ace_master_laws.proofs.AcknowledgeSteps.EndStates.{make-ends}
use Rattle.ace_master_laws.proofs.AcknowledgeSteps.Kept.{ack-kept, lacks_store}
use Rattle.ace_master_laws.proofs.Progress.Come.{HasCome}

-- a store of a whole line for which a MakeUnique waits
store-kept : (h : Header) (past : Trace) (p b : ℕ) (line : Line) → nat_lt p h.ports ≡ true → is_ace h p ≡ true → is_aligned b ≡ true → wants_store h past p b ≡ true
    → is_kept h past (D p b full_line false line) ≡ true
unfolding is_kept
store-kept h past p b line low ace aligned wants =
    let e = D p b full_line false line in
    let one : k1 h past e ≡ true = and_from _ _ low ace in
    let three : k3 h past e ≡ true = and_from _ _ aligned refl in
    let before : k32 h past e ≡ true = or_right (may_store h past p b) _ (and_from _ _ (and_from _ _ wants refl) (eq-eqb full_line full_line refl)) in
    let last : k33 h past e ≡ true = refl in
    four-kept (k1 h past e) (k3 h past e) (k32 h past e) (k33 h past e) 1 3 32 33 one three before last

module _ (plan : Plan) (past : Trace) (p : ℕ) (ace : is_ace plan.header p ≡ true) (right : IsRight plan) (a : IsAccepted plan.header past) (f : FollowsSoFar plan past) (c : HasCome plan past p)
    (unended : is_some_and (next_operation plan past p) (λ o. may_retire plan.header past p o Ok) ≡ false) (b : ℕ) (line : Line)
    (next : next_operation plan past p ≡ Some (op.Fill b line)) (st : LineState) (x : Transaction) (end : end_of plan.header past x ≡ Some st)
    (d : IsDue plan.header past p Read x) (k : ℕ) (there : slice_get (segment past p) k ≡ Some x) (is : read_kind x ≡ Some read.MakeUnique) (addr : x.addr ≡ b)
    (lacks : has_store plan.header past x.port x.id ≡ false) where
  abbrev h : Header
  h = plan.header

  abbrev store : Event
  store = D p b full_line false line

  low : nat_lt p h.ports ≡ true
  low = (and_parts (nat_lt p h.ports) _ ace).0

  complete : is_complete past x.port x.chan x.id ≡ true
  complete =
      let n = acknowledged_is past p Read x d.next in
      let w = waits_is h past p Read (acknowledgements past p Read) n.id a ace (le_refl (acknowledgements past p Read)) n.next in
      ap (λ q. is_complete past q x.chan x.id) d.port ∙ ap (λ (v : Channel). is_complete past p v x.id) d.chan ∙ ap (is_complete past p Read) (transaction_of-name past p Read n.id x n.named).id
      ∙ w.2

  awaits : awaits_store h past p b x ≡ true
  awaits =
      let makes : is_make_unique_on x b ≡ true = and_from _ _ (ap (λ v. is_some_and v is_make_unique) is) (eq-eqb x.addr b addr) in
      and_from _ _ (and_from _ _ (and_from _ _ (eq-eqb x.port p d.port) makes) d.out) complete

  kept-store : is_kept h past store ≡ true
  kept-store =
      store-kept h past p b line low ace (next-planned plan past p (op.Fill b line) right next).aligned
      (some_issued-found past (λ y. awaits_store h past p b y && not (has_store h past y.port y.id)) x.place x d.there.there (and_from _ _ awaits (ap not lacks)))

  accepted : IsAccepted h (store ∷ past)
  accepted = (a, kept-breaks-none h past store kept-store)

  due-later : IsDue h (store ∷ past) p Read x
  due-later = due-is h (store ∷ past) p Read x accepted ace (acknowledged-same past p p b full_line false line Read ∙ d.next)

  end-later : end_of h (store ∷ past) x ≡ Some st
  end-later = make-ends h (store ∷ past) p accepted x due-later is ∙ sym (make-ends h past p a x d is) ∙ end

  -- the store is there then
  stored : lacks_store h (store ∷ past) x ≡ false
  stored =
      let out : outstanding h past x.port Read x.id ≡ Some x = ap (λ q. outstanding h past q Read x.id) d.port ∙ d.waits in
      let own : is_some_and (outstanding h past x.port Read x.id) (awaits_store h past x.port b) ≡ true =
      ap (λ v. is_some_and v (awaits_store h past x.port b)) out ∙ ap (λ q. awaits_store h past q b x) d.port ∙ awaits in
      let has : has_store h (store ∷ past) x.port x.id ≡ true = or_left _ _ (and_from _ _ (eq-eqb x.port p d.port) own) in
      ap (λ v. is_some_and (read_kind x) is_make_unique && not v) has ∙ and-false (is_some_and (read_kind x) is_make_unique)

  kept-ack : is_kept h (store ∷ past) (Rk p st) ≡ true
  kept-ack = ack-kept h (store ∷ past) x st end-later p Read ace due-later stored

  -- All of it.
  pub fills-kept : are_kept h past (store ∷ Rk p st ∷ closing_of h (Rk p st ∷ store ∷ past) p (op.Fill b line)) ≡ true
  fills-kept =
      let now = Rk p st ∷ store ∷ past in
      let later : IsAccepted h now = (accepted, kept-breaks-none h (store ∷ past) (Rk p st) kept-ack) in
      let brings_x : brings_line x ≡ true = ap (λ v. is_some_and v takes_line) is in
      let ends = fill-ends plan past p right a f c unended b line next st x d k there brings_x line (same-line-self line) later in
      and_from _ _ kept-store (and_from _ _ kept-ack (ap (are_kept h now) ends ∙ retirement-kept h now p Ok low))
