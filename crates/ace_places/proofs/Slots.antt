-- Slots that lead nowhere are added.
use Rattle.std.proofs.Common.{◌≡◌, ℕ, ◌-◌, List, ◌++◌, length, replicate, refl, sym, ◌∙◌, arith}
use native.Mathlib.Decide.{dec_lt}
use Rattle.std.proofs.lemmas.List.{get_or_append_left, get_or-append_right, get_or_past, get_or-replicate, length-replicate}
use Rattle.ace_places.specs.Walks.{link_at}

-- a slot that leads nowhere is as none
pub link-stays : (links : List ℕ) (n s : ℕ) → link_at (links ++ replicate n 4294967295) s ≡ link_at links s
link-stays links n s =
    elim (dec_lt s (length links)) [
      | yes low ↦ get_or_append_left links _ 4294967295 s low
      | no over ↦ get_or-append_right links _ (length links) s 4294967295 refl (omega (arith, over)) ∙ nowhere (s - length links) ∙ sym (get_or_past links s 4294967295 (omega (arith, over)))
    ]
  where
    nowhere : (i : ℕ) → link_at (replicate n 4294967295) i ≡ 4294967295
    nowhere i =
        elim (dec_lt i n) [
          | yes low ↦ get_or-replicate n i 4294967295 4294967295 low
          | no over ↦ let x : ℕ = 4294967295 in let all = length-replicate n x in get_or_past (replicate n 4294967295) i 4294967295 (omega (arith, over, all))
        ]
