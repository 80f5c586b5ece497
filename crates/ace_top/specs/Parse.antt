-- What the parser of the command line takes, and what it gives of words of which none begins with a
-- hyphen.
use Rattle.std.specs.Prelude.{◌==◌, ℕ, Bool, false, true, List, [], ◌∷◌, Option, None, Some, String, codes, option_map}
use Rattle.std.specs.List.{list_any}
use Rattle.std.specs.String.{string_bytes}
use Rattle.std.specs.declared.alloc.Global.{Global}
use Rattle.clap.specs.Words.{App, new_app, new_rule, with_rule}
use Rattle.ace_top.specs.declared.parse.Positionals.{Positionals}

-- the word begins with `-`
abbrev pub starts_with_hyphen : List ℕ → Bool
starts_with_hyphen [] = false
starts_with_hyphen (first ∷ rest) = first == 45

abbrev pub any_hyphen : List (String Global) → Bool
any_hyphen words = list_any (λ word. starts_with_hyphen (string_bytes word)) words

-- one word, and perhaps one more; none where there are no words, or more than two
abbrev pub positionals : List (List ℕ) → Option (List ℕ × Option (List ℕ))
positionals (first ∷ []) = Some (first, None)
positionals (first ∷ second ∷ []) = Some (first, Some second)
positionals words = None

abbrev pub texts_of : Positionals → List ℕ × Option (List ℕ)
texts_of given = (given.first.now, option_map (λ second. second.now) given.second)

-- a command whose words begin with no name of a program
abbrev pub bare : App
bare =
    let app = new_app (codes "ace") in record app { top = record app.top { no_binary_name = true } }

-- with two positional arguments, of which the second may be absent
abbrev pub one_or_two : App
one_or_two =
    with_rule (with_rule bare (record (new_rule (codes "first")) { required = true }))
    (new_rule (codes "second"))
