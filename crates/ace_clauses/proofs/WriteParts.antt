-- K24 to K28 are the conjunctions of their clauses.
use Rattle.std.proofs.Common.{◌≡◌, Bool, true, false, not, ◌&&◌, ◌||◌, ◌==◌, if◌then◌else◌, [], ◌∷◌, Option, Some, None, option_map, refl, ◌∙◌, arith}
use Rattle.ace_codes.specs.declared.kind.AwKind.{AwKind}
use Rattle.ace_codes.specs.declared.kind.AwKind.TheVariants.{WriteUnique, Evict, Barrier}
use Rattle.ace_codes.specs.declared.state.LineState.{LineState}
use Rattle.ace_codes.specs.declared.state.LineState.TheVariants.{I, UC, UD, SC, SD}
use Rattle.ace_event.specs.declared.event.Channel.TheVariants.{Write}
use Rattle.ace_event.specs.declared.event.Event.{Event}
use Rattle.ace_event.specs.declared.event.Event.TheVariants.{B, M, Wk}
use Rattle.ace_event.specs.declared.header.Header.{Header}
use Rattle.ace_event.specs.declared.line.Line.{Line}
use Rattle.ace_tables.specs.EndStates.{ends_write}
use Rattle.ace_tables.specs.States.{is_invalid}
use Rattle.ace_model.specs.declared.transactions.Transaction.{Transaction}
use Rattle.ace_model.specs.Trace.{Trace, implies, is_some_and, is_none_or}
use Rattle.ace_model.specs.Kinds.{has_write_data, is_line_write, is_write_barrier, is_no_snoop_write, is_update}
use Rattle.ace_model.specs.Transactions.{transfers, is_read, outstanding, write_kind, acknowledged}
use Rattle.ace_model.specs.Progress.{updates_memory}
use Rattle.ace_model.specs.Writes.{is_burst_whole, has_memory_write}
use Rattle.ace_model.specs.Grants.{has_passed_data, are_passed_data_whole, is_granted, granted}
use Rattle.ace_model.specs.States.{are_snoops_done}
use Rattle.ace_model.specs.Copies.{same_line}
use Rattle.ace_model.specs.Replies.{passed_data}
use Rattle.ace_model.specs.ReadRules.{held_of}
use Rattle.ace_model.specs.WriteRules.{k24, k25, k26, k27, k28, data_of_write}
use Rattle.ace_clauses.specs.Clauses.{each_holds, clauses_of}
use Rattle.ace_clauses.specs.WriteClauses.{is_write_unique}
use Rattle.ace_clauses.proofs.Parts.{all, parts_if_any, alone}

-- an update is a write with data
update_has_data : (o : Option AwKind) → is_some_and o is_update ≡ true → is_some_and o has_write_data ≡ true
update_has_data None u = cc
update_has_data (Some Evict) u = cc
update_has_data (Some Barrier) u = cc
update_has_data (Some _) u = refl

-- of a write: the kind has data, or is an update; and what is due of it
of_write : (bytes update burst granted done written clear : Bool) → (update ≡ true → bytes ≡ true)
    → (burst && not written && (granted && done || update && clear))
    ≡ all
    ((bytes || granted) ∷ burst ∷ implies (not update) granted ∷ implies (not update) done ∷ not written
    ∷ implies update (granted && done || update && clear) ∷ [])
of_write bytes true burst granted done written clear has = let d = has refl in rw d (plain burst granted done written clear)
  where
    plain : (burst granted done written clear : Bool)
        → (burst && not written && (granted && done || true && clear))
        ≡ all ((true || granted) ∷ burst ∷ true ∷ true ∷ not written ∷ (granted && done || true && clear) ∷ [])
    plain burst granted done written clear = grind arith
of_write bytes false burst granted done written clear has = grind arith

-- of a read or a write: what is due where memory is written for it
due : (read passed whole first bytes update burst granted done written clear : Bool) → (update ≡ true → bytes ≡ true) → (read ≡ true → update ≡ false)
    → (if read then passed && whole && first else burst && not written && (granted && done || update && clear))
    ≡ all
    ((read || bytes || granted) ∷ implies read passed ∷ implies read whole ∷ implies read first ∷ implies (not read) burst
    ∷ implies (not read && not update) granted ∷ implies (not read && not update) done ∷ implies (not read) (not written)
    ∷ implies update (granted && done || update && clear) ∷ [])
due true passed whole first bytes update burst granted done written clear has none = let n = none refl in rw n (plain passed whole first)
  where
    plain : (a b c : Bool) → (a && b && c) ≡ all (a ∷ b ∷ c ∷ [])
    plain a b c = grind arith
due false passed whole first bytes update burst granted done written clear has none = of_write bytes update burst granted done written clear has

module _ (h : Header) (past : Trace) where
  no_update : (x : Transaction) → is_read x.chan ≡ true → updates_memory x ≡ false
  no_update x read = rw read refl

  pub k24_parts : (e : Event) → k24 h past e ≡ each_holds (clauses_of 24) h past e
  k24_parts (M p c i line) =
      found (outstanding h past p c i) _ _ _ _ _ _ _ _ _ _
      (λ x.
      due (is_read x.chan) (has_passed_data h past x) (are_passed_data_whole h past x) (transfers past x.port x.id == 0)
      (is_some_and (write_kind x) has_write_data) (updates_memory x) (is_burst_whole past x) (is_granted h past x) (are_snoops_done h past x)
      (has_memory_write past x.port x.chan x.id) (is_none_or (granted h past x.addr) (λ y. not (has_passed_data h past y)))
      (update_has_data (write_kind x)) (no_update x))
    where
      found : (o : Option Transaction) (whole a b c d e f g w i : Transaction → Bool)
          → ((x : Transaction) → whole x ≡ all (a x ∷ b x ∷ c x ∷ d x ∷ e x ∷ f x ∷ g x ∷ w x ∷ i x ∷ []))
          → is_some_and o whole
          ≡ all
          (is_some_and o a ∷ is_none_or o b ∷ is_none_or o c ∷ is_none_or o d ∷ is_none_or o e ∷ is_none_or o f ∷ is_none_or o g
          ∷ is_none_or o w ∷ is_none_or o i ∷ [])
      found None whole a b c d e f g w i same = refl
      found (Some x) whole a b c d e f g w i same = same x
  k24_parts _ = refl

  -- what a write writes, by its kind
  by_kind : (o : Option AwKind) (same : AwKind → Bool)
      → is_none_or o same
      ≡ all
      (is_none_or o (λ k. implies (not (is_write_unique k) && not (is_no_snoop_write k)) (same k)) ∷ is_none_or o (λ k. implies (is_write_unique k) (same k))
      ∷ is_none_or o (λ k. implies (is_no_snoop_write k) (same k)) ∷ [])
  by_kind o same = parts_if_any o same (_ ∷ _ ∷ _ ∷ []) one
    where
      three : (a b s : Bool) → (a && b) ≡ false → s ≡ all (implies (not a && not b) s ∷ implies a s ∷ implies b s ∷ [])
      three a b s apart = grind arith

      never_both : (k : AwKind) → (is_write_unique k && is_no_snoop_write k) ≡ false
      never_both WriteUnique = refl
      never_both _ = refl

      one : (k : AwKind) → same k ≡ all (implies (not (is_write_unique k) && not (is_no_snoop_write k)) (same k) ∷ implies (is_write_unique k) (same k) ∷ implies (is_no_snoop_write k) (same k) ∷ [])
      one k = three (is_write_unique k) (is_no_snoop_write k) (same k) (never_both k)

  line_parts : (line : Line) (read : Bool) (passed : Option Line) (o : Option AwKind) (writes : AwKind → Line) → (read ≡ true → o ≡ None)
      → is_none_or (if read then passed else option_map writes o) (same_line line)
      ≡ all
      (implies read (is_none_or passed (same_line line))
      ∷ is_none_or o (λ k. implies (not (is_write_unique k) && not (is_no_snoop_write k)) (same_line line (writes k)))
      ∷ is_none_or o (λ k. implies (is_write_unique k) (same_line line (writes k))) ∷ is_none_or o (λ k. implies (is_no_snoop_write k) (same_line line (writes k))) ∷ [])
  line_parts line true passed o writes none = let n = none refl in rw n (alone (is_none_or passed (same_line line)))
  line_parts line false passed o writes none = mapped o ∙ by_kind o (λ k. same_line line (writes k))
    where
      mapped : (o : Option AwKind) → is_none_or (option_map writes o) (same_line line) ≡ is_none_or o (λ k. same_line line (writes k))
      mapped None = refl
      mapped (Some k) = refl

  no_write : (x : Transaction) → is_read x.chan ≡ true → write_kind x ≡ None
  no_write x read = rw read refl

  pub k25_parts : (e : Event) → k25 h past e ≡ each_holds (clauses_of 25) h past e
  k25_parts (M p c i line) = parts_if_any (outstanding h past p c i) _ (_ ∷ _ ∷ _ ∷ _ ∷ [])
      (λ x. line_parts line (is_read x.chan) (passed_data h past x.addr) (write_kind x) (data_of_write h past x) (no_write x))
  k25_parts _ = refl

  pub k26_parts : (e : Event) → k26 h past e ≡ each_holds (clauses_of 26) h past e
  k26_parts (B p i resp) = found (outstanding h past p Write i) (resp == 0) _ _
    where
      three : (r a c : Bool) → (r && (a && c)) ≡ all (a ∷ r ∷ c ∷ [])
      three r a c = grind arith

      none : (r : Bool) → (r && false) ≡ false
      none r = grind arith

      found : (o : Option Transaction) (r : Bool) (a c : Transaction → Bool)
          → (r && is_some_and o (λ x. a x && c x)) ≡ all (is_some_and o a ∷ r ∷ is_none_or o c ∷ [])
      found None r a c = none r
      found (Some x) r a c = three r (a x) (c x)
  k26_parts _ = refl

  pub k27_parts : (e : Event) → k27 h past e ≡ each_holds (clauses_of 27) h past e
  k27_parts e = alone (k27 h past e)

  -- a barrier ends in I, as no other write is no line's
  end_parts : (k : AwKind) (held st : LineState) → ends_write k held st ≡ all (implies (is_line_write k) (ends_write k held st) ∷ implies (is_write_barrier k) (is_invalid st) ∷ [])
  end_parts Barrier held st = invalid st
    where
      invalid : (st : LineState) → ends_write Barrier held st ≡ all (true ∷ is_invalid st ∷ [])
      invalid I = refl
      invalid UC = refl
      invalid UD = refl
      invalid SC = refl
      invalid SD = refl
  end_parts k held st = alone (ends_write k held st)

  pub k28_parts : (e : Event) → k28 h past e ≡ each_holds (clauses_of 28) h past e
  k28_parts (Wk p st) =
      parts_if_any (acknowledged past p Write) _ (_ ∷ _ ∷ []) (λ x. parts_if_any (write_kind x) _ (_ ∷ _ ∷ []) (λ k. end_parts k (held_of h past x) st))
  k28_parts _ = refl
