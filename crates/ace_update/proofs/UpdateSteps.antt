-- The burst of a write that may have it is a step, and the trace with it is one for which an engine may stand.
use Rattle.std.proofs.Common.{◌≡◌, ℕ, Bool, true, false, not, ◌&&◌, ◌||◌, ◌==◌, nat_le, nat_lt, if◌then◌else◌, List, [], ◌∷◌, ◌++◌, length, map, Some, None, is_some, refl, sym, ap, subst, ◌∙◌, inl, inr}
use Rattle.std.specs.Option.{option_to_list}
use Rattle.std.proofs.lemmas.Bool.{and_from, and_parts, cases_Bool, eq-eqb, false_from_ne_true, not-true, or_left}
use Rattle.ace_codes.specs.declared.kind.AwKind.{AwKind}
use Rattle.ace_codes.specs.declared.kind.AwKind.TheVariants as write
use Rattle.ace_event.specs.declared.event.Channel.{Channel}
use Rattle.ace_event.specs.declared.event.Channel.TheVariants.{Read, Write}
use Rattle.ace_event.specs.declared.event.Event.{Event}
use Rattle.ace_event.specs.declared.event.Event.TheVariants.{B, M}
use Rattle.ace_event.specs.declared.header.Header.{Header}
use Rattle.ace_event.specs.declared.line.Line.{Line}
use Rattle.ace_model.specs.declared.transactions.Transaction.{Transaction}
use Rattle.ace_model.specs.Barriers.{is_barrier_half}
use Rattle.ace_model.specs.Kinds.{has_write_data, is_read_barrier, is_update, is_write_barrier}
use Rattle.ace_model.specs.Plans.{Plan}
use Rattle.ace_model.specs.Progress.{evicts, updates_memory}
use Rattle.ace_model.specs.Trace.{Trace, implies, is_some_and}
use Rattle.ace_model.specs.Transactions.{is_complete, is_outstanding, outstanding, read_kind, same_channel, write_kind}
use Rattle.ace_model.specs.Values.{burst_line}
use Rattle.ace_model.specs.WriteRules.{data_of, data_of_write}
use Rattle.ace_model.specs.Writes.{burst_of, has_memory_write, is_burst_whole}
use Rattle.ace_model.proofs.General.Options.{Some-injective, is_some_and-is}
use Rattle.ace_model.proofs.Trace.Growth.{some_issued-found}
use Rattle.ace_model.proofs.Trace.WriteQueue.{done_write}
use Rattle.ace_runs.specs.Bursts.{are_kept, is_kept, may_begin, may_serve, serves}
use Rattle.ace_runs.specs.LineSteps.{memory_write, response, update_burst}
use Rattle.ace_runs.specs.SameEvents.{same_burst}
use Rattle.ace_runs.specs.Steps.{is_sound, is_step_by}
use Rattle.ace_runs.proofs.NeverStuck.Updates.EvictsMove.{may-answer-evict, response-kept}
use Rattle.ace_runs.proofs.NeverStuck.Steps.StepShapes.{updates_write}
use Rattle.ace_runs.proofs.NeverStuck.Steps.SameEvents.{same-line-self}
use Rattle.ace_runs.proofs.NeverStuck.Updates.UpdatesMove.{data-there, sends-data}
use Rattle.ace_model.proofs.Trace.IssuedTransactions.{issuer-low}
use Rattle.ace_engine.specs.Engines.{IsLegal}
use Rattle.ace_engine.proofs.OfInterconnect.{legal-with}
use Rattle.ace_portck.specs.declared.target.WriteData.{WriteData}
use Rattle.ace_portck.specs.Targets.{data_of_write as data_sent}
use Rattle.ace_update.specs.Passed.{has_passed_on}
use Rattle.ace_update.proofs.DueWrites.{IsWrite, none-begins, update-begins}

-- ---- the burst ---------------------------------------------------------------------------------------

same-chan : (c : Channel) → same_channel c c ≡ true
same-chan Read = refl
same-chan Write = refl

same-response : (x : Transaction) → same_burst (B x.port x.id 0 ∷ []) (B x.port x.id 0 ∷ []) ≡ true
same-response x = and_from _ _ (and_from _ _ (and_from _ _ (eq-eqb x.port x.port refl) (eq-eqb x.id x.id refl)) refl) refl

same-memory : (x : Transaction) (line : Line) → same_burst (M x.port x.chan x.id line ∷ B x.port x.id 0 ∷ []) (M x.port x.chan x.id line ∷ B x.port x.id 0 ∷ []) ≡ true
same-memory x line =
    and_from _ _ (and_from _ _ (and_from _ _ (and_from _ _ (eq-eqb x.port x.port refl) (same-chan x.chan)) (eq-eqb x.id x.id refl)) (same-line-self line)) (same-response x)

plain-data : (h : Header) (past : Trace) (x : Transaction) (k : AwKind) → is_update k ≡ true → data_of_write h past x k ≡ burst_line (burst_of past x)
plain-data h past x write.WriteBack u = refl
plain-data h past x write.WriteClean u = refl
plain-data h past x write.WriteEvict u = refl
plain-data h past x k u = cc

update-no-barrier : (k : AwKind) → is_update k ≡ true → is_write_barrier k ≡ false
update-no-barrier write.WriteBack u = refl
update-no-barrier write.WriteClean u = refl
update-no-barrier write.WriteEvict u = refl
update-no-barrier k u = cc

sent-if : (b : Bool) (d e : WriteData) → (if b then Some d else None) ≡ Some e → (b ≡ true) × (d ≡ e)
sent-if true d e is = (refl, Some-injective d e is)
sent-if false d e is = cc

module _ (plan : Plan) (past : Trace) (legal : IsLegal plan past) (p : ℕ) (x : Transaction) (w : IsWrite plan.header past p x) (begins : may_begin plan.header past (update_burst plan.header past x) ≡ true) where
  low : nat_lt x.port plan.header.ports ≡ true
  low = issuer-low plan.header past x legal.accepted w.issued

  out-at : outstanding plan.header past x.port Write x.id ≡ Some x
  out-at = subst (λ q. outstanding plan.header past q Write x.id ≡ Some x) (sym w.port) w.out

  -- a burst that is kept is a step
  step-of : (burst : List Event) → nat_le 1 (length burst) ≡ true → nat_le (length burst) 16 ≡ true → are_kept plan.header past burst ≡ true → same_burst (update_burst plan.header past x) burst ≡ true
      → is_step_by (3 ∷ []) plan past p burst ≡ true
  step-of burst some few kept same =
      let may : may_serve update_burst plan.header past p ≡ true =
      some_issued-found past (λ y. (y.port == p) && is_outstanding plan.header past y && may_begin plan.header past (update_burst plan.header past y)) x.place x w.issued.there
      (and_from _ _ (and_from _ _ (eq-eqb x.port p w.port) w.is_out) begins) in
      let gives : serves update_burst plan.header past p burst ≡ true =
      some_issued-found past (λ y. (y.port == p) && is_outstanding plan.header past y && same_burst (update_burst plan.header past y) burst) x.place x w.issued.there
      (and_from _ _ (and_from _ _ (eq-eqb x.port p w.port) w.is_out) same) in
      and_from (is_sound plan.header past burst) _ (and_from _ _ (and_from _ _ some few) kept)
      (or_left (may_serve update_burst plan.header past p && serves update_burst plan.header past p burst) _ (and_from _ _ may gives))

  -- ---- of an update ----

  module _ (u : updates_memory x ≡ true) (d : WriteData) (sent : data_sent past x ≡ Some d) where
    written-line : data_of plan.header past x ≡ Some d.line
    written-line =
        let k = is_some_and-is (write_kind x) is_update u in
        let there = data-there plan.header past x k.0 (updates_write x u) k.1 in
        let one = (sent-if _ _ d sent).1 in
        there ∙ ap Some (plain-data plan.header past x k.0 k.2 ∙ ap (λ (v : WriteData). v.line) one)

    burst-is : update_burst plan.header past x ≡ M x.port x.chan x.id d.line ∷ B x.port x.id 0 ∷ []
    burst-is =
        ap (λ b. if b then memory_write plan.header past x ++ response x else if evicts x then response x else []) u
        ∙ ap (λ o. map (λ v. M x.port x.chan x.id v) (option_to_list o) ++ response x) written-line

    memory-is-kept : is_kept plan.header past (M x.port x.chan x.id d.line) ≡ true
    memory-is-kept = ap (may_begin plan.header past) (sym burst-is) ∙ begins

    pub legal-memory : IsLegal plan (M x.port x.chan x.id d.line ∷ past)
    legal-memory =
        legal-with plan past (M x.port x.chan x.id d.line) refl legal memory-is-kept

    no-half : is_barrier_half x ≡ false
    no-half =
        let writes = updates_write x u in
        let k = is_some_and-is (write_kind x) is_update u in
        let none : read_kind x ≡ None = rw writes refl in
        ap (λ o. is_some_and o is_read_barrier || is_some_and (write_kind x) is_write_barrier) none ∙ ap (λ o. is_some_and o is_write_barrier) k.1 ∙ update-no-barrier k.0 k.2

    undone : is_complete past x.port x.chan x.id ≡ false
    undone =
        let sends = sends-data x u in
        let parts = (sent-if (is_some_and (write_kind x) has_write_data && is_burst_whole past x && not (has_memory_write past x.port x.chan x.id)) _ d sent).0 in
        let unwritten : has_memory_write past x.port x.chan x.id ≡ false = not-true (has_memory_write past x.port x.chan x.id) (and_parts (is_some_and (write_kind x) has_write_data && is_burst_whole past x) (not (has_memory_write past x.port x.chan x.id)) parts).1 in
        false_from_ne_true (is_complete past x.port x.chan x.id) (λ c.
        let here : is_complete past x.port Write x.id ≡ true = subst (λ v. is_complete past x.port v x.id ≡ true) w.chan c in
        let done = done_write plan.header past legal.accepted x.port x.id x out-at here sends in
        let bad : true ≡ false = sym done ∙ subst (λ v. has_memory_write past x.port v x.id ≡ false) w.chan unwritten in cc)

    response-is-kept : is_kept plan.header (M x.port x.chan x.id d.line ∷ past) (B x.port x.id 0) ≡ true
    response-is-kept =
        let e = M x.port x.chan x.id d.line in
        let written : has_memory_write (e ∷ past) x.port x.chan x.id ≡ true =
        or_left _ _ (and_from _ _ (and_from _ _ (eq-eqb x.port x.port refl) (same-chan x.chan)) (eq-eqb x.id x.id refl)) in
        response-kept plan.header (e ∷ past) x.port x.id
        (and_from _ _ low refl)
        (rw out-at (and_from _ _ (ap not undone) (then-true (is_some_and (write_kind x) has_write_data) (has_memory_write (e ∷ past) x.port x.chan x.id) written)))
        (rw out-at (may-answer-evict (e ∷ past) x no-half))
      where
        then-true : (a b : Bool) → b ≡ true → implies a b ≡ true
        then-true true b t = t
        then-true false b t = refl

    pub legal-both : IsLegal plan (B x.port x.id 0 ∷ M x.port x.chan x.id d.line ∷ past)
    legal-both =
        legal-with plan (M x.port x.chan x.id d.line ∷ past) (B x.port x.id 0) refl legal-memory response-is-kept

    pub update-step : is_step_by (3 ∷ []) plan past p (M x.port x.chan x.id d.line ∷ B x.port x.id 0 ∷ []) ≡ true
    update-step =
        step-of (M x.port x.chan x.id d.line ∷ B x.port x.id 0 ∷ []) refl refl (and_from _ _ memory-is-kept (and_from _ _ response-is-kept refl))
        (ap (λ b. same_burst b (M x.port x.chan x.id d.line ∷ B x.port x.id 0 ∷ [])) burst-is ∙ same-memory x d.line)

  -- an update that may have its burst has its data
  pub update-sent : updates_memory x ≡ true → data_sent past x ≡ None → ⊥
  update-sent u none =
      let may = update-begins plan.header past legal.accepted p x w u in
      let bad : false ≡ true = ap (λ o. is_some o && not (has_passed_on plan.header past x.addr)) (sym none) ∙ may ∙ begins in cc

  -- ---- of an Evict ----

  module _ (f : updates_memory x ≡ false) where
    evict-burst : update_burst plan.header past x ≡ B x.port x.id 0 ∷ []
    evict-burst = elim (cases_Bool (evicts x)) [
      | inr n ↦ let bad : true ≡ false = sym begins ∙ none-begins plan.header past x f n in cc
      | inl e ↦ ap (λ b. if b then memory_write plan.header past x ++ response x else if evicts x then response x else []) f ∙ ap (λ b. if b then response x else []) e
    ]

    evict-kept : is_kept plan.header past (B x.port x.id 0) ≡ true
    evict-kept = ap (may_begin plan.header past) (sym evict-burst) ∙ begins

    pub legal-response : IsLegal plan (B x.port x.id 0 ∷ past)
    legal-response = legal-with plan past (B x.port x.id 0) refl legal evict-kept

    pub evict-step : is_step_by (3 ∷ []) plan past p (B x.port x.id 0 ∷ []) ≡ true
    evict-step =
        step-of (B x.port x.id 0 ∷ []) refl refl (and_from _ _ evict-kept refl) (ap (λ b. same_burst b (B x.port x.id 0 ∷ [])) evict-burst ∙ same-response x)
