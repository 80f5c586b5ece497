-- What the result under a name says of the transaction that has it, and what a G grants.
use Rattle.std.proofs.Common.{◌≡◌, ℕ, Bool, true, false, not, ◌&&◌, [], ◌∷◌, length, Option, Some, None, refl, sym, ap, ◌∙◌, inl, inr}
use Rattle.std.proofs.lemmas.Bool.{cases_Bool, and_parts, and_right}
use Rattle.ace_sysck.proofs.Terms.{Transaction, Event, G, Read, Header, Trace, is_exclusive_store, transaction_of, outstanding, given, issued, is_named, has_name, passed_at_grant, has_failed, store_result, is_some_and, newer}
use Rattle.ace_model.proofs.General.Options.{Some-injective}
use Rattle.ace_model.proofs.Trace.Looks.{has_name-is, at_name, newest_named-older}
use Rattle.ace_model.proofs.Trace.Issued.{transaction_of-name, outstanding-named, outstanding-name}

-- a transaction that the event grants is the last of its name
given-named : (past : Trace) (e : Event) (y : Transaction) (p i : ℕ) → given past e ≡ Some y → has_name y p Read i ≡ true → transaction_of past p Read i ≡ Some y
given-named past (G q c j) y p i is named =
    sym (at_name (transaction_of past) y p Read i (has_name-is y p Read i named)) ∙ at_name (transaction_of past) y q c j (transaction_of-name past q c j y is) ∙ is
given-named past e y p i is named = cc

-- only an exclusive store has a result under its name
pub result-store : (past : Trace) (p i : ℕ) (x : Transaction) (v : Bool) → transaction_of past p Read i ≡ Some x → passed_at_grant past p i ≡ Some v → is_exclusive_store x ≡ true
result-store [] p i x v t r = cc
result-store (e ∷ past) p i x v t r =
    elim (cases_Bool (is_named (issued (length past) e) p Read i)) [
      | inl named ↦ let bad : None ≡ Some v = rw named at r in cc
      | inr other ↦
          let was : transaction_of past p Read i ≡ Some x = sym (newest_named-older (issued (length past) e) p Read i (transaction_of past p Read i) other) ∙ t in
          here (λ old. result-store past p i x v was old) was (given past e) refl (rw other at r)
    ]
  where
    here : (passed_at_grant past p i ≡ Some v → is_exclusive_store x ≡ true) → transaction_of past p Read i ≡ Some x → (o : Option Transaction) → given past e ≡ o
        → newer (store_result past o p i) (passed_at_grant past p i) ≡ Some v → is_exclusive_store x ≡ true
    here old was None is now = old now
    here old was (Some y) is now =
        elim (cases_Bool (has_name y p Read i && is_exclusive_store y)) [
          | inl both ↦
              let parts = and_parts (has_name y p Read i) (is_exclusive_store y) both in
              ap is_exclusive_store (Some-injective x y (sym was ∙ given-named past e y p i is parts.0)) ∙ parts.1
          | inr plain ↦ old (rw plain at now)
        ]

-- the outstanding read under a name is an exclusive store that failed, where the result of the name says so
pub failed_is : (h : Header) (past : Trace) (p i : ℕ) (x : Transaction) (o : Option Bool) → outstanding h past p Read i ≡ Some x → o ≡ passed_at_grant past p i
    → is_some_and o not ≡ has_failed past x
failed_is h past p i x None out is =
    let name = outstanding-name h past p Read i x out in
    rw (name.port, name.id, sym is) (sym (and_right (is_exclusive_store x) false refl))
failed_is h past p i x (Some v) out is =
    let name = outstanding-name h past p Read i x out in
    rw (result-store past p i x v (outstanding-named h past p Read i x out) (sym is), name.port, name.id, sym is) refl
