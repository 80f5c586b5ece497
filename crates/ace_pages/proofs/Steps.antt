-- One letter, or one rule, and the others.
use Rattle.std.proofs.Common.{◌≡◌, ℕ, ◌+◌, ◌-◌, ◌<◌, ◌≤◌, ◌++◌, ◌&&◌, if◌then◌else◌, suc, List, [], Some, None, bytes_eq, flat_map, drop, get_or, length, refl, arith}
use Rattle.std.proofs.lemmas.List.{at_drop_more}
use Rattle.ace_clauses.specs.declared.letters.Letter.{Letter}
use Rattle.ace_clauses.specs.declared.letters.Letter.TheVariants.{A}
use Rattle.ace_model.specs.Trace.{newer}
use Rattle.ace_pages.specs.Named.{letter_among, page_from, page_named, page_of_rule}
use Rattle.ace_pages.specs.Pages.{all_titles, clause_part, is_clause, page_name, title_line, titles_from}

pub letter_step : (word : List ℕ) (rule : ℕ) (letters : List Letter) (i : ℕ) → i < length letters
    → letter_among word rule (drop i letters)
    ≡ (if is_clause rule (get_or letters i A) && bytes_eq word (page_name rule (Some (get_or letters i A)))
    then Some (get_or letters i A) else letter_among word rule (drop (i + 1) letters))
unfolding letter_among
letter_step word rule letters i within = rw (at_drop_more (letter_among word rule) letters i A within) refl

pub part_step : (rule : ℕ) (letters : List Letter) (i : ℕ) → i < length letters
    → flat_map (clause_part rule) (drop i letters)
    ≡ clause_part rule (get_or letters i A) ++ flat_map (clause_part rule) (drop (i + 1) letters)
part_step rule letters i within = rw (at_drop_more (flat_map (clause_part rule)) letters i A within) refl

-- the pages from one rule on
page_more : (word : List ℕ) (rule count : ℕ) → page_from word rule (suc count) ≡ newer (page_of_rule word rule) (page_from word (rule + 1) count)
unfolding page_from
page_more word rule count = refl

pub page_step : (word : List ℕ) (rule : ℕ) → rule ≤ 40
    → page_from word rule (41 - rule)
    ≡ newer (page_of_rule word rule) (page_from word (rule + 1) (41 - (rule + 1)))
page_step word rule few =
    let one_more : 41 - rule ≡ suc (41 - (rule + 1)) = omega (arith, few) in
    rw one_more (page_more word rule (41 - (rule + 1)))

pub page_start : (word : List ℕ) → page_from word 1 40 ≡ page_named word
unfolding page_named
page_start word = refl

pub page_end : (word : List ℕ) (rule : ℕ) → 41 ≤ rule → page_from word rule (41 - rule) ≡ None
unfolding page_from
page_end word rule past =
    let none_left : 41 - rule ≡ 0 = omega (arith, past) in rw none_left refl

-- the titles from one rule on
title_more : (rule count : ℕ) → titles_from rule (suc count) ≡ title_line rule ++ titles_from (rule + 1) count
unfolding titles_from
title_more rule count = refl

pub title_step : (rule : ℕ) → rule ≤ 40
    → titles_from rule (41 - rule) ≡ title_line rule ++ titles_from (rule + 1) (41 - (rule + 1))
title_step rule few =
    let one_more : 41 - rule ≡ suc (41 - (rule + 1)) = omega (arith, few) in
    rw one_more (title_more rule (41 - (rule + 1)))

pub title_start : titles_from 1 40 ≡ all_titles
unfolding all_titles
title_start = refl

pub title_end : (rule : ℕ) → 41 ≤ rule → titles_from rule (41 - rule) ≡ []
unfolding titles_from
title_end rule past =
    let none_left : 41 - rule ≡ 0 = omega (arith, past) in rw none_left refl

pub ruleset page_steps = (page_step, page_start, page_end)
