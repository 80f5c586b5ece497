-- K11 to K17 are the conjunctions of their clauses.
use Rattle.std.proofs.Common.{◌≡◌, ℕ, Bool, true, false, not, ◌&&◌, ◌||◌, ◌==◌, [], ◌∷◌, Option, Some, None, is_some, is_none, refl, ap, ◌∙◌, arith}
use Rattle.ace_codes.specs.declared.kind.SnoopKind.{SnoopKind}
use Rattle.ace_codes.specs.declared.kind.SnoopKind.TheVariants.{DvmComplete, DvmMessage}
use Rattle.ace_codes.specs.declared.state.LineState.{LineState}
use Rattle.ace_codes.specs.declared.state.LineState.TheVariants.{I}
use Rattle.ace_event.specs.declared.event.Event.{Event}
use Rattle.ace_event.specs.declared.event.Event.TheVariants.{W, G, Ac, Cr, Cd}
use Rattle.ace_event.specs.declared.header.Header.{Header}
use Rattle.ace_codes.specs.Responses.{passes_dirty}
use Rattle.ace_codes.specs.Snoops.{ac_kind_of}
use Rattle.ace_tables.specs.Answers.{same_test, states_after, fits_answer, goes_with_update, is_plain_row, is_snoop_row}
use Rattle.ace_tables.specs.States.{is_invalid, is_among}
use Rattle.ace_model.specs.declared.transactions.Transaction.{Transaction}
use Rattle.ace_model.specs.Trace.{Trace, implies, is_some_and, is_none_or}
use Rattle.ace_model.specs.Kinds.{is_line_snoop, is_update, is_write_line_unique}
use Rattle.ace_model.specs.Transactions.{write_kind, takes_grant, outstanding}
use Rattle.ace_model.specs.Progress.{has_update}
use Rattle.ace_model.specs.Writes.{next_write, next_write_beat}
use Rattle.ace_model.specs.Snoops.{snoops_a_line, answered}
use Rattle.ace_model.specs.Grants.{granted, has_grant, was_snooped}
use Rattle.ace_model.specs.States.{owes_wack, state_of}
use Rattle.ace_model.specs.Copies.{word_of, copy_of}
use Rattle.ace_model.specs.Replies.{next_sent, next_sent_beat}
use Rattle.ace_model.specs.SnoopRules.{k11, k12, k13, k14, k15, k16, k17, full_beat}
use Rattle.ace_clauses.specs.Clauses.{each_holds, clauses_of}
use Rattle.ace_clauses.specs.SnoopClauses.{is_hit}
use Rattle.ace_clauses.proofs.Parts.{all, parts_if_any, parts_of_some, alone}

and_then : (a : Bool) {b c : Bool} → b ≡ c → (a && b) ≡ (a && c)
and_then a same = ap (λ b. a && b) same

-- what the answers to a snoop have to be, by the snoop and the state that is held
row_parts : (k : SnoopKind) (held : LineState) (resp : ℕ) (st : LineState)
    → is_snoop_row k held false resp st
    ≡ all
    (implies (is_hit k held) (is_among st (states_after k held))
    ∷ implies (is_line_snoop k && is_invalid held) (is_plain_row resp st)
    ∷ implies (not (is_line_snoop k)) (is_plain_row resp st)
    ∷ implies (is_hit k held) (fits_answer k held st resp)
    ∷ [])
row_parts DvmComplete held resp st = alone (is_plain_row resp st)
row_parts DvmMessage held resp st = alone (is_plain_row resp st)
row_parts k I resp st = alone (is_plain_row resp st)
row_parts k held resp st = row (is_among st (states_after k held)) (fits_answer k held st resp)
  where
    row : (a f : Bool) → (a && f && true) ≡ all (a ∷ f ∷ [])
    row a f = grind arith

-- the same beside an update
row_beside_update : (k : SnoopKind) (held : LineState) (resp : ℕ) (st : LineState)
    → is_snoop_row k held true resp st
    ≡ all
    (implies (is_hit k held) (goes_with_update k)
    ∷ implies (is_hit k held) (not (passes_dirty resp))
    ∷ (implies (is_hit k held) (not (is_invalid st)) && is_snoop_row k held false resp st)
    ∷ [])
row_beside_update DvmComplete held resp st = alone (is_plain_row resp st)
row_beside_update DvmMessage held resp st = alone (is_plain_row resp st)
row_beside_update k I resp st = alone (is_plain_row resp st)
row_beside_update k held resp st =
    row (is_among st (states_after k held)) (fits_answer k held st resp) (goes_with_update k) (not (passes_dirty resp)) (not (is_invalid st))
  where
    row : (a f g p i : Bool) → (a && f && (g && p && i)) ≡ all (g ∷ p ∷ (i && (a && f && true)) ∷ [])
    row a f g p i = grind arith

module _ (h : Header) (past : Trace) where
  pub k11_parts : (e : Event) → k11 h past e ≡ each_holds (clauses_of 11) h past e
  k11_parts (W p strb last word) =
      parts_of_some (next_write past p) _ (_ ∷ _ ∷ _ ∷ [])
      (λ x.
      and_then (same_test last (next_write_beat past p == 3))
      (parts_if_any (write_kind x) _ (_ ∷ _ ∷ [])
      (λ k. two (implies (is_update k || is_write_line_unique k) (strb == full_beat)) (implies (is_update k) (word == word_of (copy_of past x.port x.addr) (next_write_beat past p))))))
    where
      two : (a b : Bool) → (a && b) ≡ all (a ∷ b ∷ [])
      two a b = grind arith
  k11_parts _ = refl

  pub k12_parts : (e : Event) → k12 h past e ≡ each_holds (clauses_of 12) h past e
  k12_parts (G p c i) =
      parts_of_some (outstanding h past p c i) _ (_ ∷ _ ∷ _ ∷ [])
      (λ x. three (takes_grant x) (not (has_grant past x.port x.chan x.id)) (is_none (granted h past x.addr)))
    where
      three : (a b c : Bool) → (a && b && c) ≡ all (a ∷ b ∷ c ∷ [])
      three a b c = grind arith
  k12_parts _ = refl

  pub k13_parts : (e : Event) → k13 h past e ≡ each_holds (clauses_of 13) h past e
  k13_parts (Ac p addr snoop) =
      seven (snoops_a_line snoop) (granted h past addr) _ _ _ _ (was_snooped past p addr) (owes_wack h past p addr)
    where
      seven : (s : Bool) (o : Option Transaction) (a b c d : Transaction → Bool) (f g : Bool)
          → implies s (is_some_and o (λ x. a x && b x && c x && d x) && not f && not g)
          ≡ all
          (implies s (is_some o) ∷ implies s (is_none_or o a) ∷ implies s (is_none_or o b) ∷ implies s (is_none_or o c) ∷ implies s (is_none_or o d)
          ∷ implies s (not f) ∷ implies s (not g) ∷ [])
      seven s None a b c d f g = grind arith
      seven s (Some x) a b c d f g = grind arith
  k13_parts _ = refl

  pub k14_parts : (e : Event) → k14 h past e ≡ each_holds (clauses_of 14) h past e
  k14_parts e = alone (k14 h past e)

  pub k15_parts : (e : Event) → k15 h past e ≡ each_holds (clauses_of 15) h past e
  k15_parts (Cr p resp st) =
      parts_if_any (answered past p) _ (_ ∷ _ ∷ _ ∷ _ ∷ [])
      (λ s. parts_if_any (ac_kind_of s.snoop) _ (_ ∷ _ ∷ _ ∷ _ ∷ []) (λ k. row_parts k (state_of h past p s.addr) resp st))
  k15_parts _ = refl

  pub k16_parts : (e : Event) → k16 h past e ≡ each_holds (clauses_of 16) h past e
  k16_parts (Cr p resp st) =
      parts_if_any (answered past p) _ (_ ∷ _ ∷ _ ∷ [])
      (λ s.
      ap (implies (has_update h past p s.addr))
      (parts_if_any (ac_kind_of s.snoop) _ (_ ∷ _ ∷ _ ∷ []) (λ k. row_beside_update k (state_of h past p s.addr) resp st))
      ∙ three (has_update h past p s.addr) _ _ _)
    where
      three : (u a b c : Bool) → implies u (all (a ∷ b ∷ c ∷ [])) ≡ all (implies u a ∷ implies u b ∷ implies u c ∷ [])
      three u a b c = grind arith
  k16_parts _ = refl

  pub k17_parts : (e : Event) → k17 h past e ≡ each_holds (clauses_of 17) h past e
  k17_parts (Cd p last word) =
      parts_of_some (next_sent past p) _ (_ ∷ _ ∷ [])
      (λ line. and_then (same_test last (next_sent_beat past p == 3)) (alone (word == word_of line (next_sent_beat past p))))
  k17_parts _ = refl
