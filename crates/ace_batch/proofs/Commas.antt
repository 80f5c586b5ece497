-- One digit, and the others.
use Rattle.std.proofs.Common.{◌≡◌, ◌+◌, ◌-◌, ◌<◌, ◌≤◌, ◌++◌, ◌%◌, ◌&&◌, ◌==◌, ℕ, List, [], ◌∷◌, codes, drop, get_or, if◌then◌else◌, length, nat_lt, ap, ◌∙◌, arith}
use Rattle.std.proofs.lemmas.List.{at_drop_all, at_drop_more, length-drop}
use Rattle.ace_batch.specs.Summaries.{with_commas}

-- a comma, where so many digits are left
abbrev pub comma : ℕ → List ℕ
comma left = if nat_lt 0 left && (left % 3 == 0) then codes "," else []

pub comma_step : (digits : List ℕ) (i : ℕ) (d : ℕ) → i < length digits
    → with_commas (drop i digits)
    ≡ (get_or digits i d ∷ comma (length digits - i - 1)) ++ with_commas (drop (i + 1) digits)
comma_step digits i d within =
    let left : length (drop (i + 1) digits) ≡ length digits - i - 1 = length-drop (i + 1) digits ∙ (omega (arith, within)) in
    at_drop_more with_commas digits i d within
    ∙ ap (λ n. (get_or digits i d ∷ comma n) ++ with_commas (drop (i + 1) digits)) left

pub comma_end : (digits : List ℕ) (i : ℕ) → length digits ≤ i → with_commas (drop i digits) ≡ []
comma_end digits i past = at_drop_all with_commas digits i past

pub ruleset commas = (comma_step, comma_end)
