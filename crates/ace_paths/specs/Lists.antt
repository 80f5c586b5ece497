-- Lists of paths.
use Rattle.std.specs.Prelude.{ℕ, ◌==◌, Bool, not, List, filter, length, map}
use Rattle.std.specs.Borrow.{Bor}
use Rattle.std.specs.List.{slice_split}

-- the texts that these are
abbrev pub texts_of : List (Bor (List ℕ)) → List (List ℕ)
texts_of words = map (λ word. word.now) words

abbrev pub is_some_text : List ℕ → Bool
is_some_text text = not (length text == 0)

-- the paths that a text lists, a path a line; empty lines are none
abbrev pub paths_of : List ℕ → List (List ℕ)
paths_of text = filter is_some_text (slice_split (λ byte. byte == 10) text)
