-- What a reading that gave a value was made of.
use Rattle.std.proofs.Common.{◌≡◌, ℕ, Bool, true, Result, Ok, Err, Option, Some, None, refl, sym, ap, ◌∙◌, inl, inr}
use Rattle.std.proofs.lemmas.Bool.{cond-true}
use Rattle.ace_grammar.proofs.General.Options.{chosen}
use Rattle.ace_script.specs.declared.reason.Reason.{Reason}
use Rattle.ace_script.specs.declared.reason.Reason.TheVariants.{P3, P5, P6}
use Rattle.ace_script.specs.Fields.{both, made, if_in, number_in, of_fields}

pub ok_is : {A : Type 0} (x y : A) → ◌≡◌ {A = Result A Reason} (Ok x) (Ok y) → x ≡ y
ok_is x y e = cc

pub err_is : {A : Type 0} (one other : Reason) → ◌≡◌ {A = Result A Reason} (Err one) (Err other) → one ≡ other
err_is one other e = cc

pub err_isn't : {A : Type 0} (why : Reason) (x : A) (P : Type 0) → Err why ≡ Ok x → P
err_isn't why x P e = absurd cc

pub both_ok : {A B : Type 0} (one : Result A Reason) (other : Result B Reason) (x : A × B) → both one other ≡ Ok x → (one ≡ Ok x.0) × (other ≡ Ok x.1)
both_ok (Ok a) (Ok b) x e = (ap (λ y. Ok y.0) (ok_is (a, b) x e), ap (λ y. Ok y.1) (ok_is (a, b) x e))
both_ok (Ok a) (Err why) x e = err_isn't why x _ e
both_ok (Err why) (Ok b) x e = err_isn't why x _ e
both_ok (Err why) (Err other) x e = err_isn't _ x _ e

pub both_again : {A B : Type 0} (one : Result A Reason) (other : Result B Reason) (a : A) (b : B) → one ≡ Ok a → other ≡ Ok b → both one other ≡ Ok (a, b)
both_again one other a b p q = ap (λ r. both r other) p ∙ ap (λ r. both (Ok a) r) q

pub made_ok : {A B : Type 0} (make : A → B) (r : Result A Reason) (y : B) → made make r ≡ Ok y → (x : A) × (r ≡ Ok x) × (make x ≡ y)
made_ok make (Ok x) y e = (x, refl, ok_is (make x) y e)
made_ok make (Err why) y e = err_isn't why y _ e

pub in_ok : (is_in : ℕ → Bool) (r : Result ℕ Reason) (n : ℕ) → if_in is_in r ≡ Ok n → (r ≡ Ok n) × (is_in n ≡ true)
in_ok is_in (Ok m) n e =
    elim (chosen (is_in m) (Ok m) (Err P6) (Ok n) e) [
      | inl p ↦ let same = ok_is m n p.1 in (ap (λ k. Ok k) same, ap is_in (sym same) ∙ p.0)
      | inr p ↦ err_isn't P6 n _ p.1
    ]
in_ok is_in (Err why) n e = err_isn't why n _ e

pub in_again : (is_in : ℕ → Bool) (r : Result ℕ Reason) (n : ℕ) → r ≡ Ok n → is_in n ≡ true → if_in is_in r ≡ Ok n
in_again is_in r n e h = ap (if_in is_in) e ∙ cond-true (is_in n) (Ok n) (Err P6) h

pub number_in_ok : (read : Option ℕ) (n : ℕ) → number_in read ≡ Ok n → read ≡ Some n
number_in_ok None n e = err_isn't P5 n _ e
number_in_ok (Some m) n e = ap (λ k. Some k) (ok_is m n e)

pub of_fields_ok : {F A : Type 0} (read : F → Result A Reason) (fields : Option F) (a : A) → of_fields read fields ≡ Ok a → (f : F) × (fields ≡ Some f) × (read f ≡ Ok a)
of_fields_ok read None a e = err_isn't P3 a _ e
of_fields_ok read (Some f) a e = (f, refl, e)
