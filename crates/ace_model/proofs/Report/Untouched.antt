-- A line that no line transaction names has no stores, and its value is what memory has.
use Rattle.std.proofs.Common.{◌≡◌, ◌⊎◌, ◌+◌, ◌≤◌, ℕ, Bool, true, false, ◌&&◌, nat_eq, List, [], ◌∷◌, ◌++◌, length, Option, Some, None, unwrap_or, refl, sym, ap, ◌∙◌, arith, length-append, inl, inr}
use Rattle.std.proofs.lemmas.Bool.{and_parts, cases_Bool, eqb-true}
use Rattle.ace_model.specs.Lines.{is_known}
use Rattle.ace_model.specs.Copies.{written}
use Rattle.ace_model.specs.Values.{Store, store_at, stores_of, after_store}
use Rattle.ace_model.proofs.Terms.{Event, R, D, M, Mem, Channel, Read, Header, I, LineState, Trace, Transaction, IsAccepted, more, is_invalid, is_unique, is_on, transaction_of, stores_data, discards_data, opened, memory_of, value_of, is_opened_below}
use Rattle.ace_model.proofs.Rules.Keeps.{accepted_keeps}
use Rattle.ace_model.proofs.Lines.Known.{known-grown, known-granted, known-held, known-outstanding}
use Rattle.ace_model.proofs.Values.Stays.{may_unique}
use Rattle.ace_model.proofs.Values.Stores.{stores_d, stores_m, discards_r, may_write}

unique_held : (st : LineState) → is_unique st ≡ true → is_invalid st ≡ false
unique_held I u = cc
unique_held st u = refl

not_known : (b : Bool) → b ≡ true → b ≡ false → ⊥
not_known true t f = cc
not_known false t f = cc

module _ (h : Header) (past : Trace) where
  -- an event makes no store to the line, or the line is known
  pub store_known : (e : Event) → IsAccepted h (e ∷ past) → (l : ℕ) → (store_at past e l ≡ None) ⊎ (is_known past l ≡ true)
  store_known (D q addr strobe b line) a l =
      elim (cases_Bool (nat_eq l addr)) [
        | inr f ↦ inl (rw f refl)
        | inl t ↦
            let same = eqb-true l addr t in
            inr (elim (stores_d h past q l strobe b line (rw same a)) [
              | inl may ↦ known-held h past a.0 q l (unique_held _ (may_unique h past q l may))
              | inr made ↦ known-granted h past a.0 l made.one made.stands
            ])
      ]
  store_known (M q c j line) a l = by (transaction_of past q c j) refl
    where
      by : (o : Option Transaction) → transaction_of past q c j ≡ o → (store_at past (M q c j line) l ≡ None) ⊎ (is_known past l ≡ true)
      by None is = inl (rw is refl)
      by (Some x) is =
          elim (cases_Bool (stores_data x && is_on x l)) [
            | inr f ↦ inl (rw (is, f) refl)
            | inl t ↦ let w = stores_m h past q c j line l a x is t in inr (known-granted h past a.0 l w.one w.stands)
          ]
  store_known (R q j resp last word) a l = by (transaction_of past q Read j) refl
    where
      by : (o : Option Transaction) → transaction_of past q Read j ≡ o → (store_at past (R q j resp last word) l ≡ None) ⊎ (is_known past l ≡ true)
      by None is = inl (rw is refl)
      by (Some x) is =
          elim (cases_Bool (discards_data x && is_on x l)) [
            | inr f ↦ inl (rw (is, f) refl)
            | inl t ↦ let d = discards_r h past q j resp last word l a x is t in inr (known-granted h past a.0 l d.one d.stands)
          ]
  store_known _ a l = inl refl

  -- memory of a line that isn't known is written by its MEM alone
  written_unknown : (e : Event) → IsAccepted h (e ∷ past) → (l : ℕ) → is_known past l ≡ false → written past e l ≡ opened e l
  written_unknown (M q c j line) a l f = by (transaction_of past q c j) refl
    where
      by : (o : Option Transaction) → transaction_of past q c j ≡ o → written past (M q c j line) l ≡ None
      by None is = rw is refl
      by (Some x) is =
          elim (cases_Bool (is_on x l)) [
            | inr g ↦ rw (is, g) refl
            | inl t ↦ absurd (not_known _ (known-outstanding h past q c j l x (may_write h past q c j line a x is).out t) f)
          ]
  written_unknown _ a l f = refl

-- Nothing happened to the line.
pub record Untouched (past : Trace) (l : ℕ) : Type 0 where
  pub stores : stores_of past l ≡ []
  pub value : value_of past l ≡ memory_of past l

pub untouched : (h : Header) (past : Trace) → IsAccepted h past → (l : ℕ) → is_known past l ≡ false → Untouched past l
untouched h [] a l f = record { stores = refl; value = refl }
untouched h (e ∷ past) a l f =
    let old : is_known past l ≡ false = elim (cases_Bool (is_known past l)) [
      | inr new ↦ new
      | inl k ↦ absurd (not_known _ (known-grown e past l k) f)
    ] in
    let u = untouched h past a.0 l old in
    let none : store_at past e l ≡ None = elim (store_known h past e a l) [
      | inl n ↦ n
      | inr k ↦ absurd (not_known _ k old)
    ] in
    record {
      stores = ap (more (stores_of past l)) none ∙ u.stores;
      value =
          ap (after_store (unwrap_or (opened e l) (value_of past l))) none ∙ ap (unwrap_or (opened e l)) u.value
          ∙ ap (λ o. unwrap_or o (memory_of past l)) (sym (written_unknown h past e a l old));
    }

-- before a MEM no line is known
none_known : (addr : ℕ) (past : Trace) → is_opened_below past addr ≡ true → (l : ℕ) → is_known past l ≡ false
none_known addr [] t l = refl
none_known addr (Mem before line ∷ past) t l = none_known addr past (and_parts (is_opened_below past addr) _ t).0 l
none_known addr (e ∷ past) t l = cc

-- memory of a line that is known is no longer opened
pub opened_unknown : (h : Header) (past : Trace) (e : Event) → IsAccepted h (e ∷ past) → (l : ℕ) → is_known past l ≡ true → opened e l ≡ None
opened_unknown h past (Mem addr line) a l known =
    let may = (and_parts _ _ (accepted_keeps h past (Mem addr line) a).rule_3).1 in
    let below = (and_parts (nat_eq h.version 2) (is_opened_below past addr) (and_parts (nat_eq h.version 2 && is_opened_below past addr) _ may).0).1 in
    absurd (not_known _ known (none_known addr past below l))
opened_unknown h past e a l known = refl

-- there are no more stores than events
more-count : (xs : List Store) (o : Option Store) (n : ℕ) → length xs ≤ n → length (more xs o) ≤ n + 1
more-count xs None n le = omega (arith, le)
more-count xs (Some x) n le = let e = length-append xs (x ∷ []) in omega (arith, le, e)

pub stores_of-count : (past : Trace) (l : ℕ) → length (stores_of past l) ≤ length past
stores_of-count [] l = omega arith
stores_of-count (e ∷ past) l =
    let one = more-count (stores_of past l) (store_at past e l) (length past) (stores_of-count past l) in
    omega (arith, one)
