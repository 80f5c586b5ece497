-- Parts of a list.
use Rattle.std.proofs.Common.{◌≡◌, ◌+◌, ◌%◌, ◌<◌, ◌≤◌, ◌++◌, ℕ, List, [], drop, get_or, length, refl, sym, arith, rules}
use Rattle.std.proofs.lemmas.Bool.{eqb-true, eq-eqb}
use Rattle.std.proofs.lemmas.List.{at_drop_all, at_drop_more}
use Rattle.ace_batch.specs.Shards.{IsInOnePart, if_in, part_from}
use Rattle.std.specs.Borrow.{Bor}

pub part_step : (part parts : ℕ) (xs : List (Bor (List ℕ))) (i : ℕ) (d : Bor (List ℕ)) → i < length xs
    → part_from part parts i (drop i xs)
    ≡ if_in part parts i (get_or xs i d) ++ part_from part parts (i + 1) (drop (i + 1) xs)
part_step part parts xs i d within = at_drop_more (part_from part parts i) xs i d within

pub part_end : (part parts : ℕ) (xs : List (Bor (List ℕ))) (i : ℕ) → length xs ≤ i → part_from part parts i (drop i xs) ≡ []
part_end part parts xs i past = at_drop_all (part_from part parts i) xs i past

pub ruleset parts = (part_step, part_end)

pub in_one_part : (parts place : ℕ) → 0 < parts → IsInOnePart parts place
in_one_part parts place some =
    let less : place % parts < parts = search (rules, arith, some) in (
      place % parts + 1,
      omega arith,
      omega (arith, less),
      eq-eqb (place % parts + 1) (place % parts + 1) refl,
      λ other is. sym (eqb-true (place % parts + 1) other is),
    )
