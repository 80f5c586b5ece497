-- Bytes without a line feed, without a space, and without either.
use Rattle.std.proofs.Common.{◌≢◌, ℕ, ◌<◌, List, [], ◌∷◌, ◌++◌, arith}
use Rattle.std.specs.List.{AllByRecursion, join_with_byte}

-- no byte is a line feed
abbrev pub IsClean : List ℕ → Type 0
IsClean bytes = AllByRecursion (λ byte. byte ≢ 10) bytes

-- no byte is a space
abbrev pub IsPlain : List ℕ → Type 0
IsPlain bytes = AllByRecursion (λ byte. byte ≢ 32) bytes

-- each byte is a character that shows
abbrev pub IsVisible : List ℕ → Type 0
IsVisible bytes = AllByRecursion (λ byte. 32 < byte) bytes

-- what holds of the elements of two lists
pub all-append : {A : Type 0} (P : A → Type 0) (xs ys : List A) → AllByRecursion P xs → AllByRecursion P ys → AllByRecursion P (xs ++ ys)
all-append P [] ys all more = more
all-append P (x ∷ xs) ys all more = (all.0, all-append P xs ys all.1 more)

-- what follows of each element
pub all-weaker : {A : Type 0} (P Q : A → Type 0) → ((x : A) → P x → Q x) → (xs : List A) → AllByRecursion P xs → AllByRecursion Q xs
all-weaker P Q weaker [] all = tt
all-weaker P Q weaker (x ∷ xs) all = (weaker x all.0, all-weaker P Q weaker xs all.1)

visible-clean : (bytes : List ℕ) → IsVisible bytes → IsClean bytes
visible-clean bytes v = all-weaker (λ byte. 32 < byte) (λ byte. byte ≢ 10) (λ byte h e. omega (arith, h, e)) bytes v

pub visible-plain : (bytes : List ℕ) → IsVisible bytes → IsPlain bytes
visible-plain bytes v = all-weaker (λ byte. 32 < byte) (λ byte. byte ≢ 32) (λ byte h e. omega (arith, h, e)) bytes v

-- visible fields with a space between each two
pub joined-clean : (l : List (List ℕ)) → AllByRecursion IsVisible l → IsClean (join_with_byte 32 l)
joined-clean [] v = tt
joined-clean (x ∷ []) v = visible-clean x v.0
joined-clean (x ∷ y ∷ l) v =
    all-append (λ byte. byte ≢ 10) x (32 ∷ join_with_byte 32 (y ∷ l)) (visible-clean x v.0) ((λ e. absurd (omega (arith, e))), joined-clean (y ∷ l) v.1)
