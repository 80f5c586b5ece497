-- The first text, and those behind it.
use Rattle.std.proofs.Common.{◌≡◌, ◌<◌, ◌++◌, ℕ, List, [], ◌∷◌, drop, flat_map, get_or, length, map, refl, arith}
use Rattle.ace_cover.specs.Json.{behind_comma, with_commas}

module _ {A : Type 0} (text : A → List ℕ) where
  pub no_texts : (xs : List A) → length xs ≡ 0 → with_commas (map text xs) ≡ []
  no_texts [] none = refl
  no_texts (x ∷ xs) none = absurd (omega (arith, none))

  pub some_texts : (xs : List A) (d : A) → 0 < length xs
      → with_commas (map text xs) ≡ text (get_or xs 0 d) ++ flat_map behind_comma (map text (drop 1 xs))
  some_texts [] d some = absurd (omega (arith, some))
  some_texts (x ∷ xs) d some = refl
