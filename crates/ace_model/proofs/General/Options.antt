-- What a look that may find nothing says where it finds something.
use Rattle.std.proofs.Common.{◌≡◌, ◌⊎◌, inl, inr, Bool, true, false, if◌then◌else◌, Option, Some, None, is_some, is_none, refl, ap, subst}
use Rattle.std.proofs.lemmas.Bool.{cases_Bool}
use Rattle.ace_model.proofs.Terms.{is_some_and, is_none_or, newer, option_filter}

pub some_is : {A : Type 0} → (o : Option A) → is_some o ≡ true → (x : A) × (o ≡ Some x)
some_is None e = cc
some_is (Some x) e = (x, refl)

pub none_is : {A : Type 0} → (o : Option A) → is_none o ≡ true → o ≡ None
none_is None e = refl
none_is (Some x) e = cc

pub Some-injective : {A : Type 0} → (x y : A) → Some x ≡ Some y → x ≡ y
Some-injective x y e = cc

-- a value that is there only where the test says so
pub some_if-is : {A : Type 0} → (b : Bool) (x y : A) → (if b then Some x else None) ≡ Some y → (b ≡ true) × (x ≡ y)
some_if-is true x y e = (refl, cc)
some_if-is false x y e = cc

pub some_where-is : {A : Type 0} → (test : A → Bool) (x y : A) → (if test x then Some x else None) ≡ Some y → (x ≡ y) × (test y ≡ true)
some_where-is test x y e = let s = some_if-is (test x) x y e in (s.1, subst (λ z. test z ≡ true) s.1 s.0)

pub option_filter-is : {A : Type 0} → (test : A → Bool) (o : Option A) (x : A) → option_filter test o ≡ Some x → (o ≡ Some x) × (test x ≡ true)
option_filter-is test None x e = cc
option_filter-is test (Some y) x e = let s = some_where-is test y x e in (ap Some s.0, s.1)

-- one that passes the test, or else the older
pub some_or-cases : {A : Type 0} → (test : A → Bool) (y : A) (older : Option A) (x : A) → (if test y then Some y else older) ≡ Some x
    → ((Some y ≡ Some x) × (test x ≡ true)) ⊎ ((older ≡ Some x) × (test y ≡ false))
some_or-cases test y older x e =
    elim (cases_Bool (test y)) [
      | inl t ↦ let same : Some y ≡ Some x = rw t at e in inl (same, subst (λ z. test z ≡ true) (Some-injective y x same) t)
      | inr f ↦ inr (rw f at e, f)
    ]

-- or only where it says no
pub none_if-is : {A : Type 0} → (b : Bool) (o : Option A) (x : A) → (if b then None else o) ≡ Some x → (b ≡ false) × (o ≡ Some x)
none_if-is true o x e = cc
none_if-is false o x e = (refl, e)

pub is_some_and-is : {A : Type 0} → (o : Option A) (test : A → Bool) → is_some_and o test ≡ true → (x : A) × (o ≡ Some x) × (test x ≡ true)
is_some_and-is None test e = cc
is_some_and-is (Some x) test e = (x, refl, e)

pub is_some_and-at : {A : Type 0} → (o : Option A) (test : A → Bool) (x : A) → is_some_and o test ≡ true → o ≡ Some x → test x ≡ true
is_some_and-at None test x t e = cc
is_some_and-at (Some y) test x t e = subst (λ z. test z ≡ true) (Some-injective y x e) t

pub is_none_or-at : {A : Type 0} → (o : Option A) (test : A → Bool) (x : A) → is_none_or o test ≡ true → o ≡ Some x → test x ≡ true
is_none_or-at None test x t e = cc
is_none_or-at (Some y) test x t e = subst (λ z. test z ≡ true) (Some-injective y x e) t

pub newer-cases : {A : Type 0} → (new older : Option A) (x : A) → newer new older ≡ Some x → (new ≡ Some x) ⊎ (older ≡ Some x)
newer-cases None older x e = inr e
newer-cases (Some y) older x e = inl e

pub newer-none : {A : Type 0} → (o : Option A) → newer o None ≡ o
newer-none None = refl
newer-none (Some v) = refl
