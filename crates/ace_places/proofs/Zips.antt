-- Lines and values side by side.
use Rattle.std.proofs.Common.{◌≡◌, ◌≤◌, ◌+◌, ℕ, zero, suc, Bool, true, false, cond, List, [], ◌∷◌, ◌++◌, length, nat_eq, set, slice_get, zip, None, Some, refl, sym, ap, subst, arith}
use Rattle.std.proofs.lemmas.Bool.{eqb-true}
use Rattle.std.specs.List.{position_or_len}
use Rattle.std.specs.Map.{keys_of, lookup, set_value, values_of}
use Rattle.indexmap.specs.Layout.{set_value_at}

module _ {K X : Type 0} where
  pub length-zip : (ks : List K) (vs : List X) → length vs ≡ length ks → length (zip ks vs) ≡ length ks
  length-zip [] vs e = refl
  length-zip (k ∷ ks) [] e = absurd (omega arith)
  length-zip (k ∷ ks) (v ∷ vs) e = ap suc (length-zip ks vs (omega arith))

  pub values_of-zip : (ks : List K) (vs : List X) → length vs ≡ length ks → values_of (zip ks vs) ≡ vs
  values_of-zip [] [] e = refl
  values_of-zip [] (v ∷ vs) e = absurd (omega arith)
  values_of-zip (k ∷ ks) [] e = refl
  values_of-zip (k ∷ ks) (v ∷ vs) e = ap (λ l. v ∷ l) (values_of-zip ks vs (omega arith))

  pub zip-set : (ks : List K) (vs : List X) (i : ℕ) (v : X) → zip ks (set vs i v) ≡ set_value_at (zip ks vs) i v
  zip-set [] vs i v = refl
  zip-set (x ∷ ks) [] i v = refl
  zip-set (x ∷ ks) (y ∷ vs) zero v = refl
  zip-set (x ∷ ks) (y ∷ vs) (suc i) v = ap (λ l. (x, y) ∷ l) (zip-set ks vs i v)

  pub zip-push : (ks : List K) (vs : List X) (k : K) (v : X) → length vs ≡ length ks → zip (ks ++ k ∷ []) (vs ++ v ∷ []) ≡ zip ks vs ++ (k, v) ∷ []
  zip-push [] [] k v e = refl
  zip-push [] (w ∷ vs) k v e = absurd (omega arith)
  zip-push (x ∷ ks) [] k v e = absurd (omega arith)
  zip-push (x ∷ ks) (y ∷ vs) k v e = ap (λ l. (x, y) ∷ l) (zip-push ks vs k v (omega arith))

  -- the first entry whose key passes is the one at its index
  pub set-first : (t : K → Bool) (es : List (K × X)) (i : ℕ) (w : X) → position_or_len t (keys_of es) ≡ i → set_value t es w ≡ set_value_at es i w
  set-first t [] i w is = refl
  set-first t (e ∷ es) i w is = by i is (t e.0) refl (set-first t es)
    where
      by : (i : ℕ) → position_or_len t (keys_of (e ∷ es)) ≡ i → (b : Bool) → t e.0 ≡ b → ((j : ℕ) (w : X) → position_or_len t (keys_of es) ≡ j → set_value t es w ≡ set_value_at es j w)
          → set_value t (e ∷ es) w ≡ set_value_at (e ∷ es) i w
      by zero is true p rest = rw p refl
      by (suc j) is true p rest = let bad : 0 ≡ suc j = rw p at is in absurd (omega (arith, bad))
      by zero is false p rest = let bad : 1 + position_or_len t (keys_of es) ≡ 0 = rw p at is in absurd (omega (arith, bad))
      by (suc j) is false p rest = let next : 1 + position_or_len t (keys_of es) ≡ suc j = rw p at is in rw p (ap (λ l. e ∷ l) (rest j w (omega (arith, next))))

  -- where none passes, nothing is written
  pub set-none : (t : K → Bool) (es : List (K × X)) (w : X) → length es ≤ position_or_len t (keys_of es) → set_value t es w ≡ es
  set-none t [] w past = refl
  set-none t (e ∷ es) w past = by (t e.0) refl (set-none t es w)
    where
      by : (b : Bool) → t e.0 ≡ b → (length es ≤ position_or_len t (keys_of es) → set_value t es w ≡ es) → set_value t (e ∷ es) w ≡ e ∷ es
      by true p rest = let bad : suc (length es) ≤ 0 = rw p at past in absurd (omega (arith, bad))
      by false p rest = let next : suc (length es) ≤ 1 + position_or_len t (keys_of es) = rw p at past in rw p (ap (λ l. e ∷ l) (rest (omega (arith, next))))

-- the entry of the first line that is this one
pub first-entry : {X : Type 0} (l : ℕ) (es : List (ℕ × X)) (x : X) → slice_get (values_of es) (position_or_len (nat_eq l) (keys_of es)) ≡ Some x
    → slice_get es (position_or_len (nat_eq l) (keys_of es)) ≡ Some (l, x)
first-entry l [] x is = cc
first-entry {X} l ((k, y) ∷ es) x is = by (first-entry l es x) (nat_eq l k) refl
  where
    by : (slice_get (values_of es) (position_or_len (nat_eq l) (keys_of es)) ≡ Some x → slice_get es (position_or_len (nat_eq l) (keys_of es)) ≡ Some (l, x)) → (b : Bool) → nat_eq l k ≡ b
        → slice_get ((k, y) ∷ es) (position_or_len (nat_eq l) (k ∷ keys_of es)) ≡ Some (l, x)
    by rest true t =
        let there : Some y ≡ Some x = rw t at is in
        let same : y ≡ x = cc in
        let key : l ≡ k = eqb-true l k t in
        rw t (let a : ℕ × X = (k, y) in let b : ℕ × X = (l, x) in let pair : a ≡ b = rw (key, same) refl in ap Some pair)
    by rest false f =
        let n = position_or_len (nat_eq l) (keys_of es) in
        let next : suc n ≡ 1 + n = omega arith in
        rw f (subst (λ j. slice_get ((k, y) ∷ es) j ≡ Some (l, x)) next (rest (subst (λ j. slice_get (y ∷ values_of es) j ≡ Some x) (sym next) (rw f at is))))

module _ {K X : Type 0} (t : K → Bool) (k : K) (v : X) where
  -- one more entry, whose key doesn't pass
  pub push-apart : (es : List (K × X)) → t k ≡ false → lookup t (es ++ (k, v) ∷ []) ≡ lookup t es
  push-apart [] apart = rw apart refl
  push-apart (e ∷ es) apart = ap (cond (t e.0) (Some e.1)) (push-apart es apart)

  -- one more entry, whose key is the first that passes
  pub push-here : (es : List (K × X)) → lookup t es ≡ None → t k ≡ true → lookup t (es ++ (k, v) ∷ []) ≡ Some v
  push-here [] none here = rw here refl
  push-here (e ∷ es) none here = by (t e.0) refl (push-here es)
    where
      by : (b : Bool) → t e.0 ≡ b → (lookup t es ≡ None → t k ≡ true → lookup t (es ++ (k, v) ∷ []) ≡ Some v) → cond (t e.0) (Some e.1) (lookup t (es ++ (k, v) ∷ [])) ≡ Some v
      by true p rest = let bad : Some e.1 ≡ None = rw p at none in cc
      by false p rest = rw p (rest (rw p at none) here)
