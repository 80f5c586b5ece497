-- One byte of a column, and the others.
use Rattle.std.proofs.Common.{◌≡◌, ◌+◌, ◌<◌, ◌++◌, ℕ, List, flat_map, drop, get_or, length}
use Rattle.std.proofs.lemmas.List.{at_drop_more}
use Rattle.ace_explain_json.specs.Members.{letter}

pub letter_step : (text : List ℕ) (i : ℕ) (d : ℕ) → i < length text
    → flat_map letter (drop i text) ≡ letter (get_or text i d) ++ flat_map letter (drop (i + 1) text)
letter_step text i d within = at_drop_more (flat_map letter) text i d within
