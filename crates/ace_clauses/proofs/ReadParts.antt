-- K18 to K23 are the conjunctions of their clauses.
use Rattle.std.proofs.Common.{◌≡◌, ℕ, Bool, true, false, not, ◌&&◌, ◌||◌, ◌==◌, nat_lt, if◌then◌else◌, [], ◌∷◌, Option, Some, None, is_none, refl, ap, ◌∙◌, arith}
use Rattle.ace_codes.specs.declared.kind.ArKind.{ArKind}
use Rattle.ace_codes.specs.Responses.{passes_dirty, is_shared, low_bits}
use Rattle.ace_event.specs.declared.event.Channel.TheVariants.{Read}
use Rattle.ace_event.specs.declared.event.Event.{Event}
use Rattle.ace_event.specs.declared.event.Event.TheVariants.{R, Rk}
use Rattle.ace_event.specs.declared.header.Header.{Header}
use Rattle.ace_tables.specs.Answers.{same_test}
use Rattle.ace_model.specs.declared.transactions.Transaction.{Transaction}
use Rattle.ace_model.specs.Trace.{Trace, implies, is_some_and, is_none_or}
use Rattle.ace_model.specs.Kinds.{beats_of, is_line_read, takes_passed_data, may_be_shared, is_read_not_shared_dirty, is_clean_unique, is_make_unique}
use Rattle.ace_model.specs.Transactions.{transfers, read_kind, is_line, outstanding, is_ace, first_resp, acknowledged, snoop_of}
use Rattle.ace_model.specs.Grants.{are_passed_data_whole, is_granted, has_passed_data, owes_answer, owes_data, ports_below}
use Rattle.ace_model.specs.Exclusives.{has_passed, has_failed}
use Rattle.ace_model.specs.States.{are_snoops_done, has_store}
use Rattle.ace_model.specs.Copies.{is_line_read_transaction}
use Rattle.ace_model.specs.ReadRules.{k18, k19, k20, k21, k22, k23, must_be_shared, same_upper_bits}
use Rattle.ace_clauses.specs.Clauses.{each_holds, clauses_of}
use Rattle.ace_clauses.specs.ReadClauses.{is_last_transfer, are_snoops_answered, are_snoop_data_whole, are_holders_snooped, needs_no_snoop, ends_in}
use Rattle.ace_clauses.proofs.Parts.{all, parts_if_any, parts_of_some, alone, all_of_three}

module _ (h : Header) (past : Trace) where
  -- the snoops of a transaction are done where they are answered, their data are whole, and each holder was snooped
  snoops_done : (x : Transaction) → are_snoops_done h past x ≡ (are_snoops_answered h past x && are_snoop_data_whole h past x && are_holders_snooped h past x)
  snoops_done x =
      ap (λ b. is_none (snoop_of x) || has_failed past x || b)
      (all_of_three (λ q. not (owes_answer past q x.addr)) (λ q. not (owes_data past q x.addr)) (needs_no_snoop h past x) (ports_below h.ports))
      ∙ spread (is_none (snoop_of x) || has_failed past x) _ _ _
    where
      spread : (s a b c : Bool) → (s || (a && b && c)) ≡ ((s || a) && (s || b) && (s || c))
      spread s a b c = grind arith

  -- the read has transfers left, and the last of them says so
  transfer_parts : (o : Option ArKind) (left due : ArKind → Bool) (last : Bool)
      → is_some_and o (λ k. left k && same_test last (due k)) ≡ (is_some_and o left && is_none_or o (λ k. same_test last (due k)))
  transfer_parts None left due last = refl
  transfer_parts (Some k) left due last = refl

  nine : (line b c transfer granted first e f g done passed takes whole dirty : Bool) → transfer ≡ (b && c) → done ≡ (e && f && g)
      → (transfer && implies line (granted && implies first done && implies passed (takes && whole && dirty)))
      ≡ all
      (b ∷ c ∷ implies line granted ∷ implies (line && first) e ∷ (implies (line && first) f && implies (line && passed) whole)
      ∷ implies (line && first) g ∷ implies (line && passed) takes ∷ implies (line && passed) dirty ∷ [])
  nine line b c transfer granted first e f g done passed takes whole dirty t d = rw (t, d) (plain line b c granted first e f g passed takes whole dirty)
    where
      plain : (line b c granted first e f g passed takes whole dirty : Bool)
          → ((b && c) && implies line (granted && implies first (e && f && g) && implies passed (takes && whole && dirty)))
          ≡ all
          (b ∷ c ∷ implies line granted ∷ implies (line && first) e ∷ (implies (line && first) f && implies (line && passed) whole)
          ∷ implies (line && first) g ∷ implies (line && passed) takes ∷ implies (line && passed) dirty ∷ [])
      plain line b c granted first e f g passed takes whole dirty = grind arith

  pub k18_parts : (e : Event) → k18 h past e ≡ each_holds (clauses_of 18) h past e
  k18_parts (R p i resp last word) =
      parts_of_some (outstanding h past p Read i) _ (_ ∷ _ ∷ _ ∷ _ ∷ _ ∷ _ ∷ _ ∷ _ ∷ [])
      (λ x.
      nine (is_line x) (is_some_and (read_kind x) (λ k. nat_lt (transfers past x.port x.id) (beats_of k)))
      (is_none_or (read_kind x) (λ k. same_test last (is_last_transfer past x k))) _ (is_granted h past x) (transfers past x.port x.id == 0)
      (are_snoops_answered h past x) (are_snoop_data_whole h past x) (are_holders_snooped h past x) (are_snoops_done h past x)
      (has_passed_data h past x) (is_some_and (read_kind x) takes_passed_data) (are_passed_data_whole h past x) (passes_dirty resp)
      (transfer_parts (read_kind x) (λ k. nat_lt (transfers past x.port x.id) (beats_of k)) (is_last_transfer past x) last) (snoops_done x))
  k18_parts _ = refl

  pub k19_parts : (e : Event) → k19 h past e ≡ each_holds (clauses_of 19) h past e
  k19_parts (R p i resp last word) =
      parts_if_any (outstanding h past p Read i) _ (_ ∷ _ ∷ _ ∷ _ ∷ _ ∷ _ ∷ [])
      (λ x.
      six (implies (passes_dirty resp) (has_passed_data h past x)) (read_kind x) (λ k. implies (is_shared resp) (may_be_shared k))
      (λ k. not (is_read_not_shared_dirty k && passes_dirty resp && is_shared resp)) (λ k. implies (must_be_shared h past x k) (is_shared resp))
      (implies (passes_dirty resp || is_shared resp) (is_ace h x.port)) (is_none_or (first_resp past x.port x.id) (same_upper_bits resp)))
    where
      six : (a : Bool) (o : Option ArKind) (b c e : ArKind → Bool) (d f : Bool)
          → (a && is_none_or o (λ k. b k && c k && e k) && d && f) ≡ all (a ∷ is_none_or o b ∷ is_none_or o c ∷ d ∷ is_none_or o e ∷ f ∷ [])
      six a None b c e d f = grind arith
      six a (Some k) b c e d f = grind arith
  k19_parts _ = refl

  pub k20_parts : (e : Event) → k20 h past e ≡ each_holds (clauses_of 20) h past e
  k20_parts (R p i resp last word) =
      parts_if_any (outstanding h past p Read i) _ (_ ∷ _ ∷ []) (λ x. two (is_line_read_transaction x) _ word)
    where
      two : (b : Bool) (reply word : ℕ) → (word == (if b then reply else 0)) ≡ all (implies (not b) (word == 0) ∷ implies b (word == reply) ∷ [])
      two true reply word = alone (word == reply)
      two false reply word = alone (word == 0)
  k20_parts _ = refl

  pub k21_parts : (e : Event) → k21 h past e ≡ each_holds (clauses_of 21) h past e
  k21_parts (R p i resp last word) =
      parts_if_any (outstanding h past p Read i) _ (_ ∷ _ ∷ _ ∷ [])
      (λ x. three x.lock (is_some_and (read_kind x) is_clean_unique) (has_passed past x) (low_bits resp))
    where
      three : (lock clean passed : Bool) (low : ℕ)
          → (low == (if lock && implies clean passed then 1 else 0))
          ≡ all (implies (lock && implies clean passed) (low == 1) ∷ implies ((lock && clean) && not passed) (low == 0) ∷ implies (not lock) (low == 0) ∷ [])
      three false clean passed low = alone (low == 0)
      three true false passed low = alone (low == 1)
      three true true true low = alone (low == 1)
      three true true false low = alone (low == 0)
  k21_parts _ = refl

  pub k22_parts : (e : Event) → k22 h past e ≡ each_holds (clauses_of 22) h past e
  k22_parts e = alone (k22 h past e)

  pub k23_parts : (e : Event) → k23 h past e ≡ each_holds (clauses_of 23) h past e
  k23_parts (Rk p st) =
      parts_if_any (acknowledged past p Read) _ (_ ∷ _ ∷ _ ∷ [])
      (λ x.
      parts_if_any (read_kind x) _ (_ ∷ _ ∷ _ ∷ [])
      (λ k. three (is_line_read k) (ends_in h past st x k) (implies (is_make_unique k) (has_store h past x.port x.id))))
    where
      three : (line ends made : Bool) → (ends && made) ≡ all (implies line ends ∷ made ∷ implies (not line) ends ∷ [])
      three line ends made = grind arith
  k23_parts _ = refl
