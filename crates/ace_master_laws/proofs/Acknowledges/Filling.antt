-- The acknowledge of a MakeUnique with its store, which ends the operation.
use Rattle.std.proofs.Common.{◌≡◌, ◌+◌, ℕ, Bool, true, false, if◌then◌else◌, List, [], ◌∷◌, length, slice_get, Option, Some, None, inl, inr, refl, sym, ap, subst, ◌∙◌, arith, option_and_then}
use Rattle.ace_codes.specs.declared.state.LineState.{LineState}
use Rattle.ace_event.specs.declared.event.Channel.{Channel}
use Rattle.ace_event.specs.declared.event.Channel.TheVariants.{Read}
use Rattle.ace_event.specs.declared.event.Event.{Event}
use Rattle.ace_event.specs.declared.event.Event.TheVariants.{D, Rk}
use Rattle.ace_event.specs.declared.event.Outcome.TheVariants.{Ok}
use Rattle.ace_event.specs.declared.header.Header.{Header}
use Rattle.ace_event.specs.declared.line.Line.{Line}
use Rattle.ace_model.specs.declared.plans.Op.{Op}
use Rattle.ace_model.specs.declared.plans.Op.TheVariants as op
use Rattle.ace_model.specs.declared.transactions.Transaction.{Transaction}
use Rattle.ace_runs.specs.Follows.{FollowsSoFar, has_room_after}
use Rattle.ace_master_laws.proofs.Progress.Come.{HasCome, NoneBrought}
use Rattle.ace_model.specs.Accepted.{IsAccepted}
use Rattle.ace_master_laws.proofs.Acknowledges.Due.{IsDue, ack-made, brings-on-line}
use Rattle.ace_master_laws.proofs.Progress.Endings.{IsMade, access-made, access-retires, access-unmade, closing-well, fits-store, others-raise-none, stores, store-event}
use Rattle.ace_model.specs.Plans.{IsRight, Plan}
use Rattle.ace_master_laws.proofs.Answers.Answering.{KeepsOn, accepted-one, kept-rest}
use Rattle.ace_model.specs.Trace.{Trace, is_some_and}
use Rattle.ace_runs.specs.Segments.{acts_made, segment}
use Rattle.std.proofs.lemmas.Bool.{and_parts, eq-eqb, le-leb}
use Rattle.ace_runs.specs.Bursts.{are_kept}
use Rattle.ace_master_laws.proofs.Acknowledges.Acknowledging.{brings-room, no-other}
use Rattle.ace_master_laws.specs.Orderly.{brings_line}
use Rattle.ace_runs.proofs.NeverStuck.Operations.Fits.Ends.{can-not-end}
use Rattle.ace_runs.specs.Closing.{closing_of, retirement}
use Rattle.ace_master_laws.proofs.Progress.Ended.{ended-come, nothing-new}
use Rattle.ace_runs.proofs.NeverStuck.Steps.SameEvents.{equal-event}
use Rattle.ace_model.specs.Values.{full_line}
use Rattle.ace_master_laws.proofs.Lines.HeldLines.{held-one, others-not-more}
use Rattle.ace_runs.specs.HeldLines.{held_lines, line_of_transaction, line_told}
use Rattle.ace_runs.specs.Retiring.{may_retire}
use Rattle.ace_model.specs.Transactions.{next_complete, transaction_under, acknowledged}
use Rattle.ace_runs.specs.Operations.{next_operation}
use Rattle.ace_model.proofs.Trace.Issued.{outstanding-origin}
use Rattle.ace_master_laws.proofs.Progress.Wells.{rk-well}
use Rattle.ace_runs.specs.SameEvents.{same_burst, same_event}
use Rattle.ace_model.specs.Copies.{same_line}

-- the line that the store carries is none of what ends the operation
closing-alike : (h : Header) (past : Trace) (p b : ℕ) (line other : Line) (st : LineState)
    → closing_of h (Rk p st ∷ D p b full_line false line ∷ past) p (op.Fill b line) ≡ closing_of h (Rk p st ∷ D p b full_line false other ∷ past) p (op.Fill b line)
unfolding closing_of
closing-alike h past p b line other st = refl

-- a store completes nothing
pub acknowledged-same : (past : Trace) (p q b s : ℕ) (y : Bool) (l : Line) (c : Channel) → acknowledged (D q b s y l ∷ past) p c ≡ acknowledged past p c
acknowledged-same past p q b s y l c = by (next_complete past p c)
  where
    by : (o : Option ℕ) → transaction_under (D q b s y l ∷ past) p c o ≡ transaction_under past p c o
    by None = refl
    by (Some i) = refl

module _ (plan : Plan) (past : Trace) (p : ℕ) (right : IsRight plan) (a : IsAccepted plan.header past) (f : FollowsSoFar plan past) (c : HasCome plan past p)
    (unended : is_some_and (next_operation plan past p) (λ o. may_retire plan.header past p o Ok) ≡ false) (b : ℕ) (line : Line)
    (next : next_operation plan past p ≡ Some (op.Fill b line)) (st : LineState) (x : Transaction) (d : IsDue plan.header past p Read x) (k : ℕ)
    (there : slice_get (segment past p) k ≡ Some x) (brings_x : brings_line x ≡ true) where
  abbrev h : Header
  h = plan.header

  abbrev o : Op
  o = op.Fill b line

  module _ (l : Line) (same_l : same_line line l ≡ true) where
    abbrev store : Event
    store = D p b full_line false l

    abbrev now : Trace
    now = Rk p st ∷ store ∷ past

    next-ack : acknowledged (store ∷ past) p Read ≡ Some x
    next-ack = acknowledged-same past p p b full_line false l Read ∙ d.next

    none : NoneBrought h now p
    none i y out brings_y =
        elim (outstanding-origin h (store ∷ past) (Rk p st) p Read i y out) [
          | inl new ↦ nothing-new y new.0
          | inr old ↦
              let one = no-other plan past p right a f c o next k x there d.out i y old.was brings_y in
              old.lasts x next-ack (ap (λ (v : Transaction). v.place) one)
        ]

    stays-ok : may_retire h past p o Ok ≡ false
    stays-ok = sym (ap (λ n. is_some_and n (λ o. may_retire h past p o Ok)) next) ∙ unended

    unmade : acts_made past p ≡ 0
    unmade = access-unmade plan past p o f next refl stays-ok

    stored : IsAccepted h (store ∷ past) → IsMade plan past p store
    stored now1 = access-made plan past p o f next store (stores b full_line false l refl (fits-store p b full_line line false l same_l)) unmade now1

    room : IsAccepted h (store ∷ past) → has_room_after plan (store ∷ past) (Rk p st) ≡ true
    room now1 =
        let low = brings-room plan past p right a f c o next k x there d.out brings_x in
        let raises = others-raise-none h past p store now1 refl in
        let few = others-not-more h past store p x.addr (λ v apart inv. raises v inv) in
        let told : line_told (store ∷ past) (Rk p st) ≡ Some x.addr = ap (option_and_then line_of_transaction) next-ack ∙ ap (λ b. if b then Some x.addr else None) (brings-on-line x brings_x) in
        let one = held-one h (store ∷ past) (Rk p st) p x.addr told (eq-eqb p p refl) in
        le-leb (length (held_lines h now p)) plan.ways (omega (arith, low, few, one))

    -- the operation may retire then
    may-end : IsAccepted h now → may_retire h now p o Ok ≡ true
    may-end now2 =
        let m = stored now2.0 in
        let w = rk-well plan (store ∷ past) p st (room now2.0) in
        let made : acts_made now p ≡ 1 = ack-made (store ∷ past) Read p p st ∙ m.made ∙ ap (λ n. n + 1) unmade in
        access-retires plan now p o ((f, m.well.obeying), w.obeying) (m.stays ∙ next) refl made

    -- so its OP ends it
    pub fill-ends : IsAccepted h now → closing_of h now p o ≡ retirement now p Ok
    unfolding closing_of
    fill-ends now2 = let may = may-end now2 in rw may refl

    pub filled : (rest : List Event) → are_kept h past (store ∷ Rk p st ∷ rest) ≡ true → same_burst (closing_of h now p o) rest ≡ true → KeepsOn plan past p (store ∷ Rk p st ∷ rest)
    filled rest kept same =
        let now1 = accepted-one plan past store (Rk p st ∷ rest) a kept in
        let kept1 = kept-rest h past store (Rk p st ∷ rest) kept in
        let m = stored now1 in
        let now2 = accepted-one plan (store ∷ past) (Rk p st) rest now1 kept1 in
        let w = rk-well plan (store ∷ past) p st (room now1) in
        let f2 : FollowsSoFar plan now = ((f, m.well.obeying), w.obeying) in
        let later : next_operation plan now p ≡ Some o = m.stays ∙ next in
        let all = closing-well plan now p o f2 later rest now2 same (kept-rest h (store ∷ past) (Rk p st) rest kept1) in
        let may = may-end now2 in
        record {
          well = (m.well, (w, all));
          come = elim (ended-come plan now p o rest same none) [
            | inr come ↦ come
            | inl empty ↦ let stays = (can-not-end h now p o empty.0).not_ok in let bad : false ≡ true = sym stays ∙ may in cc
          ];
        }

  -- The store, the acknowledge and what ends the operation then.
  pub fill-keeps : (burst : List Event) → are_kept h past burst ≡ true
      → same_burst (D p b full_line false line ∷ Rk p st ∷ closing_of h (Rk p st ∷ D p b full_line false line ∷ past) p o) burst ≡ true → KeepsOn plan past p burst
  fill-keeps [] kept same = cc
  fill-keeps (e ∷ []) kept same = let bad = (and_parts (same_event (D p b full_line false line) e) false same).1 in cc
  fill-keeps (e ∷ g ∷ rest) kept same =
      let closing = closing_of h (Rk p st ∷ D p b full_line false line ∷ past) p o in
      let first = and_parts (same_event (D p b full_line false line) e) (same_burst (Rk p st ∷ closing) (g ∷ rest)) same in
      let second = and_parts (same_event (Rk p st) g) (same_burst closing rest) first.1 in
      let s = store-event p b full_line false line e first.0 in
      let ack_is : Rk p st ≡ g = equal-event (Rk p st) g second.0 refl in
      let is : e ∷ g ∷ rest ≡ D p b full_line false s.0 ∷ Rk p st ∷ rest = ap (λ v. v ∷ g ∷ rest) s.1 ∙ ap (λ v. D p b full_line false s.0 ∷ v ∷ rest) (sym ack_is) in
      subst (KeepsOn plan past p) (sym is)
      (filled s.0 s.2 rest (ap (are_kept h past) (sym is) ∙ kept) (ap (λ v. same_burst v rest) (sym (closing-alike h past p b line s.0 st)) ∙ second.1))
