-- A line is added to what is kept.
use Rattle.std.proofs.Common.{◌≡◌, ℕ, zero, suc, ◌+◌, ◌*◌, ◌^◌, ◌<◌, List, [], ◌∷◌, ◌++◌, length, refl, ap, ◌∙◌, arith}
use native.Mathlib.Decide.{dec_lt}
use Rattle.ace_places.specs.declared.walk.End.TheVariants.{IsFree}
use Rattle.ace_places.specs.Walks.{IsTree, first_digits, first_slot, link_at, steps, walk}
use Rattle.ace_places.proofs.Depths.{Reached, walk-done}
use Rattle.ace_places.proofs.Trees.{tree-with}

module _ (lines links opened : List ℕ) (line slot : ℕ) (t : IsTree lines links) (fits : line < 2 ^ 32)
    (ended : walk lines (link_at links) line steps (first_slot line) (first_digits line) ≡ IsFree slot)
    (kept : 0 < length links → opened ≡ links) (first : length links ≡ 0 → length opened ≡ 1024) where
  pub opened-count : length opened ≡ 1024 + 16 * length lines
  opened-count =
      elim (dec_lt 0 (length links)) [
        | yes some ↦ ap length (kept some) ∙ t.slots some
        | no none ↦
            let clear : length links ≡ 0 = omega (arith, none) in
            let at = first clear in
            let few = t.none clear in
            omega (arith, at, few)
      ]

  pub slot-within : slot < length opened
  slot-within =
      let done = walk-done lines links t line fits 7 0 (first_slot line) (first_digits line) slot refl (omega arith) refl refl ended in
      by done.1.0 done.1.2
    where
      by : (k : ℕ) → Reached lines links t line fits k slot → slot < length opened
      by zero r = let all = opened-count in omega (arith, r, all)
      by (suc k) r = let all = opened-count in let at = r.3 in let low = r.1 in omega (arith, all, at, low)

  pub tree-added : (new : List ℕ) → length lines < 4294967295 → ((s : ℕ) → link_at opened s ≡ link_at links s) → link_at new slot ≡ length lines
      → ((s : ℕ) → (s ≡ slot → ⊥) → link_at new s ≡ link_at opened s) → length new ≡ length opened + 16 → IsTree (lines ++ line ∷ []) new
  tree-added new few same leads others count =
      let all = opened-count in
      tree-with lines links new line slot t (record { fits = fits; few = few; ended = ended; leads = leads; others = λ s apart. others s apart ∙ same s; count = omega (arith, count, all) })
