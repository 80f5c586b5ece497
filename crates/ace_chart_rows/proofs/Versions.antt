-- The newest of values that passes a test.
use Rattle.std.proofs.Common.{◌≡◌, ◌<◌, ◌≤◌, ℕ, ◌+◌, ◌-◌, Bool, true, false, List, [], Option, None, Some, drop, get_or, length, refl, ap, ◌∙◌, arith, sym}
use Rattle.std.proofs.lemmas.List.{at_drop_more, drop_all, length-drop}
use Rattle.ace_chart_rows.specs.Values.{newest_with}
use Rattle.ace_event.specs.declared.line.Line.{Line}

pub newest_not_here : (test : Line → Bool) (values : List Line) (i : ℕ) (d : Line) → i < length values → test (get_or values i d) ≡ false
    → newest_with test (drop i values) ≡ newest_with test (drop (i + 1) values)
newest_not_here test values i d within not = at_drop_more (newest_with test) values i d within ∙ rw not refl

pub newest_here : (test : Line → Bool) (values : List Line) (i : ℕ) (d : Line) → i < length values → test (get_or values i d) ≡ true
    → newest_with test (drop i values) ≡ Some (length values - 1 - i)
newest_here test values i d within is =
    let left : length values - (i + 1) ≡ length values - 1 - i = omega arith in
    at_drop_more (newest_with test) values i d within ∙ rw is (ap (λ n. Some n) (length-drop (i + 1) values ∙ left))

pub newest_none : (test : Line → Bool) (values : List Line) (i : ℕ) → length values ≤ i → newest_with test (drop i values) ≡ None
newest_none test values i past = rw (drop_all i values past) refl
