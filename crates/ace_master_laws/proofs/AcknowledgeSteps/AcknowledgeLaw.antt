-- The acknowledge that is due to an ACE port is a step of it.
use Rattle.std.proofs.Common.{◌≡◌, ◌≤◌, ℕ, Bool, true, false, not, ◌&&◌, ◌||◌, ◌==◌, if◌then◌else◌, nat_lt, List, [], ◌∷◌, ◌++◌, length, slice_get, Option, Some, None, is_some, inl, inr, refl, sym, ap, subst, ◌∙◌, le-leb, leb-true, arith, unwrap_or}
use Rattle.std.specs.Option.{option_map, option_to_list}
use Rattle.std.proofs.lemmas.Bool.{and_from, and_parts, cases_Bool, eq-eqb, eqb-true, false_from_ne_true, not-true, or_left, or_right}
use Rattle.ace_codes.specs.declared.kind.ArKind.TheVariants as read
use Rattle.ace_codes.specs.declared.state.LineState.{LineState}
use Rattle.ace_event.specs.declared.event.Channel.{Channel}
use Rattle.ace_event.specs.declared.event.Channel.TheVariants.{Read, Write}
use Rattle.ace_event.specs.declared.event.Event.{Event}
use Rattle.ace_event.specs.declared.event.Event.TheVariants.{D, Rk, Op as Retires}
use Rattle.ace_event.specs.declared.header.Header.{Header}
use Rattle.ace_event.specs.declared.line.Line.{Line}
use Rattle.ace_model.specs.declared.plans.Op.{Op}
use Rattle.ace_model.specs.declared.plans.Op.TheVariants as op
use Rattle.ace_model.specs.declared.transactions.Transaction.{Transaction}
use Rattle.ace_model.specs.Accepted.{IsAccepted}
use Rattle.ace_model.specs.Kinds.{is_make_unique}
use Rattle.ace_model.specs.Messages.{is_dvm_completion}
use Rattle.ace_model.specs.Plans.{Plan}
use Rattle.ace_model.specs.States.{has_store}
use Rattle.ace_model.specs.Trace.{Trace, is_none_or, is_some_and, option_filter}
use Rattle.ace_model.specs.Transactions.{acknowledged, is_ace, issued, outstanding, read_kind}
use Rattle.ace_model.specs.Values.{full_line}
use Rattle.ace_model.proofs.General.Booleans.{implies-at}
use Rattle.ace_model.proofs.General.Lists.{slice_get-more}
use Rattle.ace_model.proofs.General.Options.{Some-injective, is_none_or-at, is_some_and-is, option_filter-is}
use Rattle.ace_runs.specs.Bursts.{are_kept}
use Rattle.ace_runs.specs.Closing.{access_of, and_closing, closing_of}
use Rattle.ace_runs.specs.Lean.{IsLean, is_on_named_line, is_one_of_three, is_one_of_two}
use Rattle.ace_runs.specs.MasterSteps.{acknowledge, acknowledge_for, acknowledge_in, acknowledge_of, acknowledges, acknowledges_on, due, end_of, has_due, is_finished, may_acknowledge, store_lacked}
use Rattle.ace_runs.specs.Operations.{next_operation}
use Rattle.ace_runs.specs.SameEvents.{same_burst}
use Rattle.ace_runs.specs.Segments.{is_for_operation, is_in_segment, segment}
use Rattle.ace_runs.specs.Steps.{is_sound, is_step_by}
use Rattle.ace_runs.proofs.Accepting.{kept-breaks-none}
use Rattle.ace_runs.proofs.NeverStuck.Operations.Kept.ClosingKept.{closing-short}
use Rattle.ace_runs.proofs.NeverStuck.Operations.Lines.OfPlan.{next-planned}
use Rattle.ace_runs.proofs.NeverStuck.Steps.SameBursts.{burst-self}
use Rattle.ace_engine.specs.Engines.{IsLegal}
use Rattle.ace_master_laws.specs.Orderly.{IsOrderly, brings_line, read_wanted, takes_line}
use Rattle.ace_master_laws.proofs.Acknowledges.Acknowledging.{read-of-line}
use Rattle.ace_master_laws.proofs.Acknowledges.Due.{IsDue, ack, ack-is, due-is, due-of-read, in-segment, of-segment}
use Rattle.ace_master_laws.proofs.Acknowledges.StepFour.{made-for, make-kind}
use Rattle.ace_master_laws.proofs.AcknowledgeSteps.Closings.{closings-kept}
use Rattle.ace_master_laws.proofs.AcknowledgeSteps.EndStates.{ends-some}
use Rattle.ace_master_laws.proofs.AcknowledgeSteps.Kept.{ack-kept, lacks_store}
use Rattle.ace_master_laws.proofs.AcknowledgeSteps.Stores.{fills-kept}
use Rattle.ace_master_laws.proofs.Progress.Come.{HasCome, brought-for, orderly-come}

-- ---- the operation of a segment ----------------------------------------------------------------------

-- what a port has issued for its next operation was issued for one
segment-next : (plan : Plan) (past : Trace) (p k : ℕ) (x : Transaction) → IsLean plan past → slice_get (segment past p) k ≡ Some x → (o : Op) × (next_operation plan past p ≡ Some o)
segment-next plan [] p k x lean there = cc
segment-next plan (Retires q n res ∷ past) p k x lean there =
    elim (cases_Bool (p == q)) [
      | inl t ↦ let bad : None ≡ Some x = rw t at there in nothing bad
      | inr f ↦ rw f (segment-next plan past p k x lean.0 (rw f at there))
    ]
  where
    nothing : {A : Type 0} → None ≡ Some x → A
    nothing bad = cc
segment-next plan (e ∷ past) p k x lean there =
    elim (slice_get-more (segment past p) (option_filter (is_for_operation p) (issued (length past) e)) k x there) [
      | inl old ↦ segment-next plan past p k x lean.0 old
      | inr new ↦
          let of = option_filter-is (is_for_operation p) (issued (length past) e) x new.1 in
          let mine = and_parts (x.port == p) (not (is_dvm_completion x)) of.1 in
          let first = (and_parts (is_none_or (issued (length past) e) (λ x. is_one_of_three plan past x && is_on_named_line plan x)) (is_one_of_two plan past e) lean.1).0 in
          let one = (and_parts (is_one_of_three plan past x) (is_on_named_line plan x) (is_none_or-at (issued (length past) e) (λ x. is_one_of_three plan past x && is_on_named_line plan x) x first of.0)).0 in
          let some = (and_parts (is_some (next_operation plan past x.port)) (nat_lt (length (segment past x.port)) 3) (implies-at (not (is_dvm_completion x)) _ one mine.1)).0 in
          some-next (next_operation plan past p) (ap (λ q. is_some (next_operation plan past q)) (sym (eqb-true x.port p mine.0)) ∙ some)
    ]
  where
    some-next : (n : Option Op) → is_some n ≡ true → (o : Op) × (n ≡ Some o)
    some-next None s = cc
    some-next (Some o) s = (o, refl)

-- ---- bursts ------------------------------------------------------------------------------------------

sound : (h : Header) (past : Trace) (burst : List Event) → 1 ≤ length burst → length burst ≤ 16 → are_kept h past burst ≡ true → is_sound h past burst ≡ true
sound h past burst some few kept = and_from _ _ (and_from _ _ (le-leb 1 (length burst) some) (le-leb (length burst) 16 few)) kept

module _ (plan : Plan) (past : Trace) (p : ℕ) (ace : is_ace plan.header p ≡ true) (legal : IsLegal plan past) (orderly : IsOrderly plan past p)
    (ch : Channel) (x : Transaction) (d : IsDue plan.header past p ch x) (st : LineState) (end : end_of plan.header past x ≡ Some st) where
  abbrev h : Header
  h = plan.header

  c : HasCome plan past p
  c = orderly-come plan past p orderly

  abbrev IsSound : List Event → Type 0
  IsSound burst = is_sound h past burst ≡ true

  -- a MakeUnique that lacks its store is one of the operation
  lacking-inside : lacks_store h past x ≡ true → is_in_segment past x ≡ true
  lacking-inside lacks =
      let m = is_some_and-is (read_kind x) is_make_unique (and_parts (is_some_and (read_kind x) is_make_unique) (not (has_store h past x.port x.id)) lacks).0 in
      let b : brings_line x ≡ true = ap (λ v. is_some_and v takes_line) (m.1 ∙ ap Some (make-kind m.0 m.2)) in
      let of = c.brought x.id x (ap (λ q. outstanding h past p q x.id) (sym (due-of-read h past p ch x d b)) ∙ d.waits) b in
      in-segment past p of.1 x x d.port of.3 (eq-eqb x.place x.place refl)

  apart-sound : is_in_segment past x ≡ false → IsSound (acknowledge x st)
  apart-sound apart =
      let stored = false_from_ne_true (lacks_store h past x) (λ lacks. let bad : false ≡ true = sym apart ∙ lacking-inside lacks in cc) in
      subst IsSound (sym (ack-is x p ch st d.port d.chan))
      (sound h past (ack ch p st ∷ []) (omega arith) (omega arith) (and_from _ _ (ack-kept h past x st end p ch ace d stored) refl))

  module _ (o : Op) (next : next_operation plan past p ≡ Some o) (k : ℕ) (there : slice_get (segment past p) k ≡ Some x) where
    plain-sound : lacks_store h past x ≡ false → IsSound (ack ch p st ∷ closing_of h (ack ch p st ∷ past) p o)
    plain-sound stored =
        let e = ack ch p st in
        let kept = ack-kept h past x st end p ch ace d stored in
        let now : IsAccepted h (e ∷ past) = (legal.accepted, kept-breaks-none h past e kept) in
        let short = leb-true (length (closing_of h (e ∷ past) p o)) 2 (closing-short h (e ∷ past) p o) in
        sound h past (e ∷ closing_of h (e ∷ past) p o) (omega arith) (omega (arith, short))
        (and_from _ _ kept (closings-kept plan past p legal.right legal.accepted legal.follows c orderly.unended o next ch st x d k there now))

    filled-sound : (b : ℕ) (line : Line) → o ≡ op.Fill b line → ch ≡ Read → read_kind x ≡ Some read.MakeUnique → x.addr ≡ b → has_store h past x.port x.id ≡ false
        → IsSound (and_closing h past p (op.Fill b line) (option_to_list (access_of past p (op.Fill b line)) ++ ack Read p st ∷ []))
    filled-sound b line of reads is addr lacks =
        let now = Rk p st ∷ D p b full_line false line ∷ past in
        let short = leb-true (length (closing_of h now p (op.Fill b line))) 2 (closing-short h now p (op.Fill b line)) in
        sound h past (D p b full_line false line ∷ Rk p st ∷ closing_of h now p (op.Fill b line)) (omega arith) (omega (arith, short))
        (fills-kept plan past p ace legal.right legal.accepted legal.follows c orderly.unended b line (next ∙ ap Some of) st x end (subst (λ v. IsDue h past p v x) reads d) k there is addr lacks)

    stored-sound : lacks_store h past x ≡ true → IsSound (and_closing h past p o (option_to_list (access_of past p o) ++ ack ch p st ∷ []))
    stored-sound lacks =
        let parts = and_parts (is_some_and (read_kind x) is_make_unique) (not (has_store h past x.port x.id)) lacks in
        let m = is_some_and-is (read_kind x) is_make_unique parts.0 in
        let is : read_kind x ≡ Some read.MakeUnique = m.1 ∙ ap Some (make-kind m.0 m.2) in
        let brings_x : brings_line x ≡ true = ap (λ v. is_some_and v takes_line) is in
        let for = brought-for o x ((c.under_way o next).asked k x there) brings_x in
        let kind = Some-injective for.kind read.MakeUnique (sym for.is_kind ∙ is) in
        let fill = made-for o for.line (subst (λ v. read_wanted o ≡ Some (v, for.line)) kind for.wanted) (next-planned plan past p o legal.right next).fields in
        let on_read : ch ≡ Read = due-of-read h past p ch x d brings_x in
        subst (λ v. IsSound (and_closing h past p o (option_to_list (access_of past p o) ++ ack v p st ∷ []))) (sym on_read)
        (subst (λ v. IsSound (and_closing h past p v (option_to_list (access_of past p v) ++ ack Read p st ∷ []))) (sym fill.1)
        (filled-sound for.line fill.0 fill.1 on_read is (read-of-line for.kind for.line x for.of) (not-true (has_store h past x.port x.id) parts.1)))

    own-sound : IsSound (and_closing h past x.port o (store_lacked h past x o ++ acknowledge x st))
    own-sound =
        subst (λ q. IsSound (and_closing h past q o ((if lacks_store h past x then option_to_list (access_of past q o) else []) ++ acknowledge x st))) (sym d.port)
        (subst (λ l. IsSound (and_closing h past p o ((if lacks_store h past x then option_to_list (access_of past p o) else []) ++ l))) (sym (ack-is x p ch st d.port d.chan))
        (by (lacks_store h past x) refl))
      where
        by : (lacks : Bool) → lacks_store h past x ≡ lacks → IsSound (and_closing h past p o ((if lacks then option_to_list (access_of past p o) else []) ++ ack ch p st ∷ []))
        by true is = stored-sound is
        by false is = plain-sound is

  in-sound : IsSound (acknowledge_in (next_operation plan past p) h past x st)
  in-sound = by (is_in_segment past x) refl
    where
      for : (n : Option Op) (o : Op) → next_operation plan past p ≡ n → n ≡ Some o → (k : ℕ) → slice_get (segment past p) k ≡ Some x → IsSound (acknowledge_for h past x n st)
      for None o next some k there = cc
      for (Some v) o next some k there = own-sound v next k there

      by : (b : Bool) → is_in_segment past x ≡ b → IsSound (if b then acknowledge_for h past x (next_operation plan past p) st else acknowledge x st)
      by true inside =
          let at = of-segment past p x d.port d.there inside in
          let o = segment-next plan past p at.0 x legal.lean at.1 in
          for (next_operation plan past p) o.0 refl o.1 at.0 at.1
      by false apart = apart-sound apart

  pub acknowledge-sound : IsSound (acknowledge_of (next_operation plan past p) h past x)
  acknowledge-sound = subst (λ v. IsSound (unwrap_or (option_map (acknowledge_in (next_operation plan past p) h past x) v) [])) (sym end) in-sound

-- ---- the step ----------------------------------------------------------------------------------------

due-some : (h : Header) (past : Trace) (p : ℕ) (c : Channel) → is_some (due h past p c) ≡ true → has_due h past p ≡ true
due-some h past p Read d = or_left (is_some (due h past p Read)) (is_some (due h past p Write)) d
due-some h past p Write d = or_right (is_some (due h past p Read)) (is_some (due h past p Write)) d

-- The acknowledge that is due is a step.
pub acknowledge-steps : (plan : Plan) (past : Trace) (p : ℕ) (c : Channel) (x : Transaction) → is_ace plan.header p ≡ true → IsLegal plan past → IsOrderly plan past p
    → due plan.header past p c ≡ Some x → is_step_by (4 ∷ []) plan past p (acknowledge_of (next_operation plan past p) plan.header past x) ≡ true
acknowledge-steps plan past p c x ace legal orderly is =
    let h = plan.header in
    let n = next_operation plan past p in
    let burst = acknowledge_of n h past x in
    let next : acknowledged past p c ≡ Some x = sym (ap (λ b. if b then acknowledged past p c else None) ace) ∙ is in
    let d = due-is h past p c x legal.accepted ace next in
    let end = ends-some h past p legal.accepted x c d in
    let good = acknowledge-sound plan past p ace legal orderly c x d end.0 end.1 in
    let may : may_acknowledge n h past p ≡ true = or_left (has_due h past p) (is_finished n h past p) (due-some h past p c (ap is_some is)) in
    let on : acknowledges_on n h past p burst c ≡ true = ap (λ o. is_some_and o (λ y. same_burst (acknowledge_of n h past y) burst)) is ∙ burst-self burst in
    let gives : acknowledges n h past p burst ≡ true = or_left (acknowledges_on n h past p burst Read || acknowledges_on n h past p burst Write) _ (either c on) in
    and_from _ _ good (or_left (may_acknowledge n h past p && acknowledges n h past p burst) _ (and_from _ _ may gives))
  where
    either : (ch : Channel) → acknowledges_on (next_operation plan past p) plan.header past p (acknowledge_of (next_operation plan past p) plan.header past x) ch ≡ true
        → (acknowledges_on (next_operation plan past p) plan.header past p (acknowledge_of (next_operation plan past p) plan.header past x) Read
        || acknowledges_on (next_operation plan past p) plan.header past p (acknowledge_of (next_operation plan past p) plan.header past x) Write) ≡ true
    either Read on = or_left _ _ on
    either Write on = or_right _ _ on
