-- Step 4: what a master acknowledges, with what ends its operation then, obeys the plan and stays lean, and leaves how far its operations have come.
use Rattle.std.proofs.Common.{◌≡◌, ℕ, Bool, true, false, not, ◌&&◌, ◌||◌, if◌then◌else◌, List, [], ◌∷◌, ◌++◌, slice_get, Option, Some, None, inl, inr, refl, sym, ap, subst, ◌∙◌, unwrap_or}
use Rattle.std.specs.Option.{option_map, option_to_list}
use Rattle.ace_codes.specs.declared.kind.ArKind.{ArKind}
use Rattle.ace_codes.specs.declared.kind.ArKind.TheVariants as read
use Rattle.ace_codes.specs.declared.state.LineState.{LineState}
use Rattle.ace_event.specs.declared.event.Channel.{Channel}
use Rattle.ace_event.specs.declared.event.Channel.TheVariants.{Read, Write}
use Rattle.ace_event.specs.declared.event.Event.{Event}
use Rattle.ace_event.specs.declared.event.Event.TheVariants.{D, Rk}
use Rattle.ace_event.specs.declared.event.Outcome.TheVariants.{Ok}
use Rattle.ace_event.specs.declared.header.Header.{Header}
use Rattle.ace_event.specs.declared.line.Line.{Line}
use Rattle.ace_model.specs.declared.plans.Op.{Op}
use Rattle.ace_model.specs.declared.plans.Op.TheVariants as op
use Rattle.ace_model.specs.declared.transactions.Transaction.{Transaction}
use Rattle.ace_runs.specs.Follows.{FollowsSoFar}
use Rattle.ace_master_laws.proofs.Progress.Come.{HasCome, brought-for}
use Rattle.ace_model.specs.Accepted.{IsAccepted}
use Rattle.ace_master_laws.proofs.Acknowledges.Due.{IsDue, ack-is, ack-lineless, due-is, due-of-read, of-segment, ack}
use Rattle.ace_model.specs.Plans.{IsRight, Plan, has_right_fields}
use Rattle.ace_master_laws.proofs.Answers.Answering.{KeepsOn}
use Rattle.ace_model.proofs.General.Options.{Some-injective, is_some_and-is}
use Rattle.ace_model.specs.Trace.{Trace, is_some_and}
use Rattle.ace_runs.specs.Closing.{access_of, and_closing, closing_of, retirement}
use Rattle.ace_runs.specs.MasterSteps.{acknowledge_for, acknowledge_in, acknowledge_of, acknowledges_on, end_of, has_due, is_finished, store_lacked, acknowledge, due, acknowledges}
use Rattle.std.proofs.lemmas.Bool.{and_from, and_parts, or_cases}
use Rattle.ace_runs.specs.Bursts.{are_kept}
use Rattle.ace_master_laws.specs.Orderly.{brings_line, read_wanted, takes_line}
use Rattle.ace_runs.proofs.NeverStuck.Steps.SameBursts.{equal-burst}
use Rattle.ace_runs.proofs.NeverStuck.Steps.SameEvents.{equal-event}
use Rattle.ace_master_laws.proofs.Acknowledges.Filling.{fill-keeps}
use Rattle.ace_model.specs.Values.{full_line}
use Rattle.ace_model.specs.States.{has_store}
use Rattle.ace_model.specs.Transactions.{is_ace, read_kind, acknowledged}
use Rattle.ace_tables.specs.EndStates.{is_fetch}
use Rattle.ace_runs.specs.Segments.{is_in_segment, segment}
use Rattle.ace_model.specs.Kinds.{is_make_unique}
use Rattle.ace_runs.specs.Retiring.{may_retire}
use Rattle.ace_runs.proofs.NeverStuck.Operations.Lines.OfPlan.{next-planned}
use Rattle.ace_runs.specs.Operations.{next_operation}
use Rattle.ace_master_laws.proofs.Acknowledges.Acknowledging.{other-keeps, own-keeps, pair-parts}
use Rattle.ace_runs.specs.SameEvents.{same_burst, same_event}
use Rattle.ace_master_laws.proofs.Acknowledges.Settling.{settles}

never : (o : Op) → has_right_fields o ≡ true → is_some_and (read_wanted o) (λ (q : ArKind × ℕ). is_make_unique q.0) ≡ true → (line : Line) × (l : ℕ) × (o ≡ op.Fill l line)
never (op.Fill b line) right m = (line, b, refl)
never (op.Pf b k) right m = absurd (apart k right m)
  where
    apart : (k : ArKind) → is_fetch k ≡ true → is_make_unique k ≡ true → ⊥
    apart read.MakeUnique f m = cc
    apart k f m = cc
never o right m = let bad : false ≡ true = m in absurd (falsity bad)
  where
    falsity : false ≡ true → ⊥
    falsity b = cc

-- the operation that a MakeUnique is for
pub made-for : (o : Op) (l : ℕ) → read_wanted o ≡ Some (read.MakeUnique, l) → has_right_fields o ≡ true → (line : Line) × (o ≡ op.Fill l line)
made-for o l wanted right =
    let fill = never o right (ap (λ v. is_some_and v (λ (q : ArKind × ℕ). is_make_unique q.0)) wanted) in
    let same = (pair-parts (read_wanted o) read.MakeUnique read.MakeUnique l fill.1 wanted (ap read_wanted fill.2)).1 in
    (fill.0, fill.2 ∙ ap (λ v. op.Fill v fill.0) (sym same))

pub make-kind : (k : ArKind) → is_make_unique k ≡ true → k ≡ read.MakeUnique
make-kind read.MakeUnique m = refl
make-kind k m = cc

module _ (plan : Plan) (past : Trace) (p : ℕ) (ace : is_ace plan.header p ≡ true) (right : IsRight plan) (a : IsAccepted plan.header past) (f : FollowsSoFar plan past) (c : HasCome plan past p)
    (unended : is_some_and (next_operation plan past p) (λ o. may_retire plan.header past p o Ok) ≡ false) (burst : List Event) (kept : are_kept plan.header past burst ≡ true) where
  abbrev h : Header
  h = plan.header

  nothing-keeps : same_burst [] burst ≡ true → KeepsOn plan past p burst
  nothing-keeps same = by burst same
    where
      by : (l : List Event) → same_burst [] l ≡ true → KeepsOn plan past p l
      by [] m = record { well = tt; come = c }
      by (e ∷ l) m = cc

  module _ (ch : Channel) (x : Transaction) (d : IsDue h past p ch x) (st : LineState) (end : end_of h past x ≡ Some st) where
    apart-keeps : is_in_segment past x ≡ false → same_burst (acknowledge x st) burst ≡ true → KeepsOn plan past p burst
    apart-keeps apart same =
        let is = ack-is x p ch st d.port d.chan in
        let one : ack ch p st ∷ [] ≡ burst = equal-burst (ack ch p st ∷ []) burst (ap (λ l. same_burst l burst) (sym is) ∙ same) (and_from _ _ (ack-lineless ch p st) refl) in
        subst (KeepsOn plan past p) one (other-keeps plan past p right a f c ch st x d apart (ap (are_kept h past) one ∙ kept))

    module _ (o : Op) (next : next_operation plan past p ≡ Some o) (k : ℕ) (there : slice_get (segment past p) k ≡ Some x) where
      plain-keeps : same_burst (ack ch p st ∷ closing_of h (ack ch p st ∷ past) p o) burst ≡ true → KeepsOn plan past p burst
      plain-keeps same = by burst kept same
        where
          by : (l : List Event) → are_kept h past l ≡ true → same_burst (ack ch p st ∷ closing_of h (ack ch p st ∷ past) p o) l ≡ true → KeepsOn plan past p l
          by [] m s = cc
          by (e ∷ rest) m s =
              let parts = and_parts (same_event (ack ch p st) e) (same_burst (closing_of h (ack ch p st ∷ past) p o) rest) s in
              let one : ack ch p st ≡ e = equal-event (ack ch p st) e parts.0 (ack-lineless ch p st) in
              subst (λ v. KeepsOn plan past p (v ∷ rest)) one
              (own-keeps plan past p right a f c o next ch st x d k there rest (ap (λ v. are_kept h past (v ∷ rest)) one ∙ m) parts.1
              (λ now follows none. settles plan past p right a f c o next ch st x d k there end now follows none))

      stored-keeps : is_some_and (read_kind x) is_make_unique ≡ true → same_burst (and_closing h past p o (option_to_list (access_of past p o) ++ ack ch p st ∷ [])) burst ≡ true → KeepsOn plan past p burst
      stored-keeps makes same =
          let m = is_some_and-is (read_kind x) is_make_unique makes in
          let is : read_kind x ≡ Some read.MakeUnique = m.1 ∙ ap Some (make-kind m.0 m.2) in
          let brings_x : brings_line x ≡ true = ap (λ v. is_some_and v takes_line) is in
          let for = brought-for o x ((c.under_way o next).asked k x there) brings_x in
          let kind : for.kind ≡ read.MakeUnique = Some-injective for.kind read.MakeUnique (sym for.is_kind ∙ is) in
          let fill = made-for o for.line (subst (λ v. read_wanted o ≡ Some (v, for.line)) kind for.wanted) (next-planned plan past p o right next).fields in
          let on_read : ch ≡ Read = due-of-read h past p ch x d brings_x in
          let burst_is : same_burst (D p for.line full_line false fill.0 ∷ Rk p st ∷ closing_of h (Rk p st ∷ D p for.line full_line false fill.0 ∷ past) p (op.Fill for.line fill.0)) burst ≡ true =
          subst (λ v. same_burst (and_closing h past p v (option_to_list (access_of past p v) ++ ack Read p st ∷ [])) burst ≡ true) fill.1
          (subst (λ v. same_burst (and_closing h past p o (option_to_list (access_of past p o) ++ ack v p st ∷ [])) burst ≡ true) on_read same) in
          fill-keeps plan past p right a f c unended for.line fill.0 (next ∙ ap Some fill.1) st x (subst (λ v. IsDue h past p v x) on_read d) k there brings_x burst kept burst_is

      own-acknowledge : same_burst (and_closing h past x.port o (store_lacked h past x o ++ acknowledge x st)) burst ≡ true → KeepsOn plan past p burst
      own-acknowledge same =
          by (is_some_and (read_kind x) is_make_unique && not (has_store h past x.port x.id)) refl
          (ap (λ q. same_burst (and_closing h past q o ((if is_some_and (read_kind x) is_make_unique && not (has_store h past x.port x.id) then option_to_list (access_of past q o) else []) ++ acknowledge x st)) burst) (sym d.port)
          ∙ same)
        where
          by : (lacks : Bool) → (is_some_and (read_kind x) is_make_unique && not (has_store h past x.port x.id)) ≡ lacks
              → same_burst (and_closing h past p o ((if lacks then option_to_list (access_of past p o) else []) ++ acknowledge x st)) burst ≡ true → KeepsOn plan past p burst
          by true is s =
              stored-keeps (and_parts (is_some_and (read_kind x) is_make_unique) (not (has_store h past x.port x.id)) is).0
              (ap (λ l. same_burst (and_closing h past p o (option_to_list (access_of past p o) ++ l)) burst) (sym (ack-is x p ch st d.port d.chan)) ∙ s)
          by false is s = plain-keeps (ap (λ l. same_burst (and_closing h past p o l) burst) (sym (ack-is x p ch st d.port d.chan)) ∙ s)

    for-keeps : (n : Option Op) → next_operation plan past p ≡ n → is_in_segment past x ≡ true → same_burst (acknowledge_for h past x n st) burst ≡ true → KeepsOn plan past p burst
    for-keeps None next inside same = nothing-keeps same
    for-keeps (Some o) next inside same = let at = of-segment past p x d.port d.there inside in own-acknowledge o next at.0 at.1 same

    ack-keeps : same_burst (acknowledge_in (next_operation plan past p) h past x st) burst ≡ true → KeepsOn plan past p burst
    ack-keeps same = by (is_in_segment past x) refl same
      where
        by : (b : Bool) → is_in_segment past x ≡ b → same_burst (if b then acknowledge_for h past x (next_operation plan past p) st else acknowledge x st) burst ≡ true → KeepsOn plan past p burst
        by true is s = for-keeps (next_operation plan past p) refl is s
        by false is s = apart-keeps is s

  on-keeps : (ch : Channel) → acknowledges_on (next_operation plan past p) h past p burst ch ≡ true → KeepsOn plan past p burst
  on-keeps ch s =
      let x = is_some_and-is (due h past p ch) (λ x. same_burst (acknowledge_of (next_operation plan past p) h past x) burst) s in
      let next : acknowledged past p ch ≡ Some x.0 = sym (ap (λ b. if b then acknowledged past p ch else None) ace) ∙ x.1 in
      by x.0 (due-is h past p ch x.0 a ace next) (end_of h past x.0) refl x.2
    where
      by : (x : Transaction) → IsDue h past p ch x → (o : Option LineState) → end_of h past x ≡ o
          → same_burst (unwrap_or (option_map (acknowledge_in (next_operation plan past p) h past x) o) []) burst ≡ true → KeepsOn plan past p burst
      by x d None end same = nothing-keeps same
      by x d (Some st) end same = ack-keeps ch x d st end same

  -- Acknowledging.
  pub acknowledges-keeps : acknowledges (next_operation plan past p) h past p burst ≡ true → KeepsOn plan past p burst
  acknowledges-keeps s =
      let next = next_operation plan past p in
      elim (or_cases (acknowledges_on next h past p burst Read || acknowledges_on next h past p burst Write) (is_finished next h past p && same_burst (retirement past p Ok) burst) s) [
        | inr finished ↦
            let done = (and_parts (is_finished next h past p) (same_burst (retirement past p Ok) burst) finished).0 in
            let ends = (and_parts (not (has_due h past p)) (is_some_and next (λ o. may_retire h past p o Ok)) done).1 in
            let bad : false ≡ true = sym unended ∙ ends in cc
        | inl on ↦ elim (or_cases (acknowledges_on next h past p burst Read) (acknowledges_on next h past p burst Write) on) [
          | inl reads ↦ on-keeps Read reads
          | inr writes ↦ on-keeps Write writes
        ]
      ]
