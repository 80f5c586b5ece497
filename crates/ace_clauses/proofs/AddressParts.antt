-- K1 to K10 are the conjunctions of their clauses.
use Rattle.std.proofs.Common.{◌≡◌, ℕ, Bool, not, ◌&&◌, ◌==◌, [], ◌∷◌, Option, Some, None, is_some, is_none, length, nat_lt, refl, ap, ◌∙◌, arith}
use Rattle.std.specs.List.{list_all}
use Rattle.ace_event.specs.declared.event.Event.{Event}
use Rattle.ace_event.specs.declared.event.Event.TheVariants.{B, R, Ac, Cr, Ar, Aw, Mem}
use Rattle.ace_event.specs.declared.header.Header.{Header}
use Rattle.ace_codes.specs.Reads.{ar_kind_of}
use Rattle.ace_codes.specs.Responses.{low_bits, has_error}
use Rattle.ace_codes.specs.Snoops.{ac_kind_of}
use Rattle.ace_codes.specs.Writes.{aw_kind_of}
use Rattle.ace_model.specs.declared.transactions.Transaction.{Transaction}
use Rattle.ace_model.specs.Trace.{Trace, port_of, implies, is_some_and, is_none_or}
use Rattle.ace_model.specs.Kinds.{may_be_exclusive, is_unique_write}
use Rattle.ace_model.specs.Transactions.{is_ace, issued, read_kind, write_kind}
use Rattle.ace_model.specs.Barriers.{is_barrier_half}
use Rattle.ace_model.specs.Messages.{is_message_part, is_message_word, first_waiting, is_dvm_completion}
use Rattle.ace_model.specs.AddressRules.{wants_ace, k1, k2, k3, k4, k5, k6, k7, k8, k9, k10, is_opened_below, is_aligned, is_part_in_order, has_write, gives_up}
use Rattle.ace_clauses.specs.Clauses.{each_holds, clauses_of}
use Rattle.ace_clauses.specs.AddressClauses.{opens_a_line, has_whole_pairs, has_answered_pairs, fits_partner, is_after_sync}
use Rattle.ace_clauses.proofs.Parts.{all, parts_if_any, parts_of_some, alone}

module _ (h : Header) (past : Trace) where
  pub k1_parts : (e : Event) → k1 h past e ≡ each_holds (clauses_of 1) h past e
  k1_parts e = parts_if_any (port_of e) _ (_ ∷ _ ∷ []) (λ p. two (nat_lt p h.ports) (implies (wants_ace e) (is_ace h p)))
    where
      two : (a b : Bool) → (a && b) ≡ all (a ∷ b ∷ [])
      two a b = grind arith

  has_kind : {A : Type 0} → (o : Option A) (test : A → Bool) → is_some_and o test ≡ all (is_some o ∷ is_none_or o test ∷ [])
  has_kind o test = parts_of_some o test (test ∷ []) (λ k. alone (test k))

  pub k2_parts : (e : Event) → k2 h past e ≡ each_holds (clauses_of 2) h past e
  k2_parts (Ar p i addr snoop dom bar lock) = has_kind (ar_kind_of snoop dom bar) _
  k2_parts (Aw p i addr snoop dom bar) = has_kind (aw_kind_of snoop dom bar) _
  k2_parts (Ac p addr snoop) = alone (is_some (ac_kind_of snoop))
  k2_parts (R p i resp last word) = alone (nat_lt (low_bits resp) 2)
  k2_parts (B p i resp) = alone (nat_lt (low_bits resp) 2)
  k2_parts (Cr p resp st) = alone (not (has_error resp))
  k2_parts _ = refl

  -- where each event is a MEM with a smaller address, each is a MEM
  opened : (before : Trace) (addr : ℕ) → is_opened_below before addr ≡ (list_all opens_a_line before && is_opened_below before addr)
  opened [] addr = refl
  opened (Mem first line ∷ before) addr = ap (λ b. b && nat_lt first addr) (opened before addr) ∙ assoc (list_all opens_a_line before) _ _
    where
      assoc : (a b c : Bool) → ((a && b) && c) ≡ (a && (b && c))
      assoc a b c = grind arith
  opened (_ ∷ before) addr = refl

  pub k3_parts : (e : Event) → k3 h past e ≡ each_holds (clauses_of 3) h past e
  k3_parts (Mem addr line) =
      ap (λ b. is_aligned addr && ((h.version == 2) && b && nat_lt (length past) 4096)) (opened past addr)
      ∙ five (is_aligned addr) (h.version == 2) (list_all opens_a_line past) (is_opened_below past addr) (nat_lt (length past) 4096)
    where
      five : (a b c d e : Bool) → (a && (b && (c && d) && e)) ≡ all (a ∷ b ∷ c ∷ d ∷ e ∷ [])
      five a b c d e = grind arith
  k3_parts (Ar p i addr snoop dom bar lock) = refl
  k3_parts (Aw p i addr snoop dom bar) = refl
  k3_parts _ = refl

  pub k4_parts : (e : Event) → k4 h past e ≡ each_holds (clauses_of 4) h past e
  k4_parts e = alone (k4 h past e)

  pub k5_parts : (e : Event) → k5 h past e ≡ each_holds (clauses_of 5) h past e
  k5_parts e = alone (k5 h past e)

  pub k6_parts : (e : Event) → k6 h past e ≡ each_holds (clauses_of 6) h past e
  k6_parts e = alone (k6 h past e)

  pub k7_parts : (e : Event) → k7 h past e ≡ each_holds (clauses_of 7) h past e
  k7_parts e =
      parts_if_any (issued (length past) e) _ (_ ∷ _ ∷ []) (λ x. two x.lock (is_ace h x.port) (is_some_and (read_kind x) may_be_exclusive))
    where
      two : (lock ace kind : Bool) → implies lock (ace && kind) ≡ all (implies (lock && ace) kind ∷ implies lock ace ∷ [])
      two lock ace kind = grind arith

  pub k8_parts : (e : Event) → k8 h past e ≡ each_holds (clauses_of 8) h past e
  k8_parts e = alone (k8 h past e)

  -- the parts of a barrier, of a part of a message, which is a first one where none waits for its second, and of a completion
  eight : (bar a b c d part word sync : Bool) (o : Option Transaction) (fits : Option Transaction → Bool) (dvm i : Bool) → fits None ≡ (word && sync)
      → (implies bar (a && (b && c) && d) && implies part (fits o) && implies dvm i)
      ≡ all
      (implies bar a ∷ implies bar b ∷ implies bar c ∷ implies bar d ∷ implies (part && is_none o) word ∷ implies (part && is_none o) sync
      ∷ implies part (is_none_or o (λ x. fits (Some x))) ∷ implies dvm i ∷ [])
  eight bar a b c d part word sync None fits dvm i same = grind arith
  eight bar a b c d part word sync (Some x) fits dvm i same = grind arith

  pub k9_parts : (e : Event) → k9 h past e ≡ each_holds (clauses_of 9) h past e
  k9_parts e =
      parts_if_any (issued (length past) e) _ (_ ∷ _ ∷ _ ∷ _ ∷ _ ∷ _ ∷ _ ∷ _ ∷ [])
      (λ x.
      eight (is_barrier_half x) (x.addr == 0) (has_whole_pairs past x) (has_answered_pairs past x) (fits_partner past x)
      (is_message_part x) (is_message_word x.addr) (is_after_sync past x) (first_waiting past x.port) (is_part_in_order past x)
      (is_dvm_completion x) (x.addr == 0) refl)

  pub k10_parts : (e : Event) → k10 h past e ≡ each_holds (clauses_of 10) h past e
  k10_parts e =
      parts_if_any (issued (length past) e) _ (_ ∷ _ ∷ [])
      (λ x.
      parts_if_any (write_kind x) _ (_ ∷ _ ∷ [])
      (λ k. two (gives_up k) (is_unique_write k) (not (has_write h past x.port is_unique_write)) (not (has_write h past x.port gives_up))))
    where
      two : (a b c d : Bool) → (implies a c && implies b d) ≡ all (implies a c ∷ implies b d ∷ [])
      two a b c d = grind arith
