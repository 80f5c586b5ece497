-- In an accepted trace an exclusive store is exclusive.
use Rattle.std.proofs.Common.{◌≡◌, ◌≢◌, ◌⊎◌, ℕ, Bool, true, false, not, if◌then◌else◌, ◌&&◌, nat_eq, [], ◌∷◌, Option, Some, None, refl, sym, ap, ◌∙◌, inl, inr}
use Rattle.std.specs.Option.{option_and_then}
use Rattle.std.proofs.lemmas.Bool.{and_parts, or_left, or_right, cases_Bool, eqb-true, eq-eqb, ne_eqb, not-true}
use Rattle.ace_model.proofs.Terms.{I, Header, Read, Event, R, L, D, M, is_invalid, is_unique, Transaction, Trace, is_some_and, transaction_of, state_of, is_set_by, is_monitored, Store, store_of, discard_of}
use Rattle.ace_model.proofs.Terms.{IsAccepted, is_exclusive_load, disturbs, is_undisturbed, ExclusiveHolds}
use Rattle.ace_model.proofs.Rules.Keeps.{accepted_keeps}
use Rattle.ace_model.proofs.Holders.Law.{accepted_holds}
use Rattle.ace_model.proofs.Values.Stores.{stores_d, stores_m, discards_r, all_empty}

-- the transaction that the store to the line is of
stored_by : (f : Transaction → Option Store) (o : Option Transaction) (test : Store → Bool) → is_some_and (option_and_then f o) test ≡ true
    → (x : Transaction) × (o ≡ Some x) × (is_some_and (f x) test ≡ true)
stored_by f None test d = cc
stored_by f (Some x) test d = (x, refl, d)

-- where it is a store under a condition, the condition holds
stored_if : (b : Bool) (s : Store) (test : Store → Bool) → is_some_and (if b then Some s else None) test ≡ true → b ≡ true
stored_if true s test d = refl
stored_if false s test d = cc

-- what the event says of a monitor that is set after it
set_by : (e : Event) (p l : ℕ) (was : Bool) → is_set_by e p l was ≡ true → (is_exclusive_load e p ≡ true) ⊎ (was ≡ true)
set_by (L q addr w x word) p l was s =
    elim (cases_Bool (nat_eq p q && x)) [
      | inl load ↦ inl load
      | inr other ↦ inr (rw other at s)
    ]
set_by (D q addr strobe x line) p l was s = inr (and_parts was _ s).0
set_by e p l was s = inr s

module _ (h : Header) (p l : ℕ) where
  -- where another port stores to the line, the port holds nothing of it
  gone_at_store : (past : Trace) (e : Event) → IsAccepted h (e ∷ past) → disturbs past e p l ≡ true → state_of h (e ∷ past) p l ≡ I
  gone_at_store past (D q addr strobe x line) a d =
      elim (cases_Bool (nat_eq l addr)) [
        | inl here ↦
            let other : not (nat_eq q p) ≡ true = rw here at d in
            let apart : q ≢ p = λ same. let bad : not true ≡ true = rw (eq-eqb q p same) at other in cc in
            let none : state_of h past p addr ≡ I =
            elim (stores_d h past q addr strobe x line a) [
              | inl may ↦ (accepted_holds h past a.0).unique addr q p (and_parts (is_unique (state_of h past q addr)) _ may).0 apart
              | inr made ↦ made.alone p apart
            ] in
            rw (ne_eqb p q (λ same. apart (sym same))) (ap (state_of h past p) (eqb-true l addr here) ∙ none)
        | inr other ↦ let bad : false ≡ true = rw other at d in cc
      ]
  gone_at_store past (M q c i line) a d =
      let by = stored_by (store_of past l) (transaction_of past q c i) _ d in
      all_empty h past a.0 l (stores_m h past q c i line l a by.0 by.1 (stored_if _ _ _ by.2)).unheld p
  gone_at_store past (R q i resp last word) a d =
      let by = stored_by (discard_of past l) (transaction_of past q Read i) _ d in
      all_empty h past a.0 l (discards_r h past q i resp last word l a by.0 by.1 (stored_if _ _ _ by.2)).unheld p
  gone_at_store past e a d = cc

  -- a port whose monitor was set before the event is undisturbed by it
  stays_undisturbed : (past : Trace) (e : Event) → IsAccepted h (e ∷ past) → is_invalid (state_of h (e ∷ past) p l) ≡ false
      → is_undisturbed past p l ≡ true → is_undisturbed (e ∷ past) p l ≡ true
  stays_undisturbed past e a held before =
      elim (cases_Bool (disturbs past e p l)) [
        | inl d ↦ let bad : is_invalid I ≡ false = rw (gone_at_store past e a d) at held in cc
        | inr none ↦ or_right (is_exclusive_load e p) _ (rw none before)
      ]

  monitored_undisturbed : (past : Trace) → IsAccepted h past → is_monitored h past p l ≡ true → is_undisturbed past p l ≡ true
  monitored_undisturbed [] a m = cc
  monitored_undisturbed (e ∷ past) a m =
      let parts = and_parts (is_set_by e p l (is_monitored h past p l)) (not (is_invalid (state_of h (e ∷ past) p l))) m in
      elim (set_by e p l (is_monitored h past p l) parts.0) [
        | inl load ↦ or_left (is_exclusive_load e p) _ load
        | inr was ↦ stays_undisturbed past e a (not-true _ parts.1) (monitored_undisturbed past a.0 was)
      ]

-- it holds at every event of an accepted trace
pub accepted_exclusive_holds : (h : Header) (past : Trace) → IsAccepted h past → ExclusiveHolds past
accepted_exclusive_holds h [] a = tt
accepted_exclusive_holds h (D p addr strobe true line ∷ past) a =
    let monitored : is_monitored h past p addr ≡ true = (accepted_keeps h past (D p addr strobe true line) a).rule_33 in
    (accepted_exclusive_holds h past a.0, λ load. monitored_undisturbed h p addr past a.0 monitored)
accepted_exclusive_holds h (e ∷ past) a = accepted_exclusive_holds h past a.0
