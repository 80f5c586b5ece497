-- An element of a list that tells of the elements of another.
use Rattle.std.proofs.Common.{◌≡◌, ℕ, ◌<◌, List, length, map, Option, Some, None, slice_get, slice_index_or, option_map, refl, sym, ap, ◌∙◌, arith}
use Rattle.std.proofs.lemmas.List.{length-map}
use Rattle.std.proofs.lemmas.Option.{slice_get-get_or, slice_get-map, slice_get_within}
use Rattle.ace_model.proofs.General.Options.{Some-injective}

pub listed-at : {A B : Type 0} → (tell : A → B) (xs : List A) (list : List B) (k : ℕ) (d : B) → list ≡ map tell xs → k < length list
    → (x : A) × (slice_get xs k ≡ Some x) × (slice_index_or list k d ≡ tell x)
listed-at {A} {B} tell xs list k d is low =
    let there = slice_get-get_or list k d low in
    some (slice_get xs k) refl (sym there ∙ ap (λ l. slice_get l k) is ∙ slice_get-map tell xs k)
  where
    some : (o : Option A) → slice_get xs k ≡ o → Some (slice_index_or list k d) ≡ option_map tell (slice_get xs k) → (x : A) × (slice_get xs k ≡ Some x) × (slice_index_or list k d ≡ tell x)
    some None at e = (let bad : Some (slice_index_or list k d) ≡ None = e ∙ ap (option_map tell) at in cc)
    some (Some x) at e = (x, at, Some-injective _ (tell x) (e ∙ ap (option_map tell) at))

pub listed-within : {A B : Type 0} → (tell : A → B) (xs : List A) (list : List B) → list ≡ map tell xs → (k : ℕ) (x : A) → slice_get xs k ≡ Some x → k < length list
listed-within tell xs list is k x at =
    let low = slice_get_within xs k x at in
    let long : length list ≡ length xs = ap length is ∙ length-map xs tell in
    omega (arith, low, long)
