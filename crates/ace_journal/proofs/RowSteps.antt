-- One row more of a text.
use Rattle.std.proofs.Common.{◌≡◌, ◌+◌, ◌-◌, ◌<◌, ◌≤◌, ◌++◌, ◌∷◌, ◌∙◌, ℕ, suc, List, ap, arith, drop, get_or, length, take}
use Rattle.std.proofs.Math.Seq.{drop-cons}
use Rattle.ace_journal.specs.LedTexts.{marked_row, rows_text}
use Rattle.ace_journal.specs.declared.looks.Looks.{Looks}
use Rattle.ace_journal.specs.declared.rows.Row.{Row}
use Rattle.ace_side_facts.specs.declared.facts.SideFacts.{SideFacts}

-- of the rows that have so many newer ones the newest, and those behind it
pub rows_step : (f : SideFacts) (width : ℕ) (looks : Looks) (port : ℕ) (all : List Row) (left : ℕ) (d : Row) → 0 < left → left ≤ length all
    → rows_text f width looks port all (left - 1) (drop (left - 1) all)
    ≡ rows_text f width looks port all left (drop left all) ++ marked_row f width looks port (take (left - 1) all) (get_or all (left - 1) d)
rows_step f width looks port all left d some within =
    let there : left - 1 < length all = omega (arith, some, within) in
    let next : suc (left - 1) ≡ left = omega (arith, some) in
    let back : left - 1 + 1 ≡ left = omega (arith, some) in
    let row = get_or all (left - 1) d in
    let first : drop (left - 1) all ≡ row ∷ drop left all = drop-cons all (left - 1) d there ∙ ap (λ n. row ∷ drop n all) next in
    ap (λ rows. rows_text f width looks port all (left - 1) rows) first
    ∙ ap (λ n. rows_text f width looks port all n (drop left all) ++ marked_row f width looks port (take (left - 1) all) row) back
