-- One trace of a list, and those of a part of the others.
use Rattle.std.proofs.Common.{◌≡◌, ◌+◌, ◌<◌, ◌≤◌, ◌++◌, ℕ, true, false, List, [], ◌∷◌, drop, flat_map, get_or, if◌then◌else◌, inl, inr, length, refl, ap, ◌∙◌, arith}
use Rattle.std.proofs.lemmas.Bool.{cases_Bool}
use Rattle.std.proofs.lemmas.List.{at_drop_all, at_drop_more}
use Rattle.ace_batch.specs.Json.{entry_json}
use Rattle.ace_batch.specs.Shards.{is_in, part_from}
use Rattle.ace_batch.specs.declared.entry.Entry.{Entry}

-- the trace is in the part, or it isn't
part_yes : (part parts : ℕ) (xs : List Entry) (i : ℕ) (d : Entry) → i < length xs → is_in part parts i ≡ true
    → part_from part parts i (drop i xs) ≡ get_or xs i d ∷ part_from part parts (i + 1) (drop (i + 1) xs)
part_yes part parts xs i d within hit = at_drop_more (part_from part parts i) xs i d within ∙ rw hit refl

part_no : (part parts : ℕ) (xs : List Entry) (i : ℕ) (d : Entry) → i < length xs → is_in part parts i ≡ false
    → part_from part parts i (drop i xs) ≡ part_from part parts (i + 1) (drop (i + 1) xs)
part_no part parts xs i d within miss = at_drop_more (part_from part parts i) xs i d within ∙ rw miss refl

part_none : (part parts : ℕ) (xs : List Entry) (i : ℕ) → length xs ≤ i → part_from part parts i (drop i xs) ≡ []
part_none part parts xs i past = at_drop_all (part_from part parts i) xs i past

pub count_yes : (part parts : ℕ) (xs : List Entry) (i : ℕ) (d : Entry) → i < length xs → is_in part parts i ≡ true
    → length (part_from part parts i (drop i xs)) ≡ length (part_from part parts (i + 1) (drop (i + 1) xs)) + 1
count_yes part parts xs i d within hit = let same = ap length (part_yes part parts xs i d within hit) in omega (arith, same)

pub count_no : (part parts : ℕ) (xs : List Entry) (i : ℕ) (d : Entry) → i < length xs → is_in part parts i ≡ false
    → length (part_from part parts i (drop i xs)) ≡ length (part_from part parts (i + 1) (drop (i + 1) xs))
count_no part parts xs i d within miss = ap length (part_no part parts xs i d within miss)

pub count_none : (part parts : ℕ) (xs : List Entry) (i : ℕ) → length xs ≤ i → length (part_from part parts i (drop i xs)) ≡ 0
count_none part parts xs i past = ap length (part_none part parts xs i past)

pub count_step : (part parts : ℕ) (xs : List Entry) (i : ℕ) → i < length xs
    → length (part_from part parts i (drop i xs)) ≡ length (part_from part parts (i + 1) (drop (i + 1) xs)) + (if is_in part parts i then 1 else 0)
count_step part parts [] i within = absurd (omega (arith, within))
count_step part parts (x ∷ xs) i within = elim (cases_Bool (is_in part parts i)) [
  | inl hit ↦ rw hit (count_yes part parts (x ∷ xs) i x within hit)
  | inr miss ↦ rw miss (let same = count_no part parts (x ∷ xs) i x within miss in omega (arith, same))
]

pub ruleset counts = (count_step, count_none)

pub lines_yes : (part parts : ℕ) (xs : List Entry) (i : ℕ) (d : Entry) → i < length xs → is_in part parts i ≡ true
    → flat_map entry_json (part_from part parts i (drop i xs))
    ≡ entry_json (get_or xs i d) ++ flat_map entry_json (part_from part parts (i + 1) (drop (i + 1) xs))
lines_yes part parts xs i d within hit = ap (flat_map entry_json) (part_yes part parts xs i d within hit)

pub lines_no : (part parts : ℕ) (xs : List Entry) (i : ℕ) (d : Entry) → i < length xs → is_in part parts i ≡ false
    → flat_map entry_json (part_from part parts i (drop i xs)) ≡ flat_map entry_json (part_from part parts (i + 1) (drop (i + 1) xs))
lines_no part parts xs i d within miss = ap (flat_map entry_json) (part_no part parts xs i d within miss)

pub lines_none : (part parts : ℕ) (xs : List Entry) (i : ℕ) → length xs ≤ i → flat_map entry_json (part_from part parts i (drop i xs)) ≡ []
lines_none part parts xs i past = ap (flat_map entry_json) (part_none part parts xs i past)

pub line_step : (part parts : ℕ) (xs : List Entry) (i : ℕ) (d : Entry) → i < length xs
    → flat_map entry_json (part_from part parts i (drop i xs))
    ≡ (if is_in part parts i then entry_json (get_or xs i d) else []) ++ flat_map entry_json (part_from part parts (i + 1) (drop (i + 1) xs))
line_step part parts xs i d within = elim (cases_Bool (is_in part parts i)) [
  | inl hit ↦ rw hit (lines_yes part parts xs i d within hit)
  | inr miss ↦ rw miss (lines_no part parts xs i d within miss)
]

pub ruleset lines = (line_step, lines_none)
