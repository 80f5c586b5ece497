-- When texts are painted: by the words in front of a command, and by the command.
use Rattle.std.specs.Prelude.{ℕ, ◌||◌, Bool, true, false, List, [], ◌∷◌, Option, None, Some, codes, drop, bytes_eq, option_map, if◌then◌else◌}
use Rattle.ace_terminal.specs.declared.wishes.When.{When}
use Rattle.ace_terminal.specs.declared.wishes.When.TheVariants.{Always, Auto, Never}
use Rattle.ace_terminal.specs.declared.wishes.Wish.{Wish}

abbrev pub when_named : List ℕ → Option When
when_named word =
    if bytes_eq word (codes "always") then Some Always
    else (if bytes_eq word (codes "never") then Some Never
    else (if bytes_eq word (codes "auto") then Some Auto else None))

-- the option with its value in one word
abbrev pub when_joined : List ℕ → Option When
when_joined word =
    if bytes_eq word (codes "--color=always") then Some Always
    else (if bytes_eq word (codes "--color=never") then Some Never
    else (if bytes_eq word (codes "--color=auto") then Some Auto else None))

-- so many words wish this
abbrev pub wish_in : ℕ → Option When → Option Wish
wish_in words when = option_map (λ w. record { when = w; words = words }) when

-- the wish behind the word `--color`
abbrev pub wish_behind : List (List ℕ) → Option Wish
wish_behind [] = None
wish_behind (word ∷ rest) = wish_in 2 (when_named word)

-- the wish in front of the words, `--color WHEN` or `--color=WHEN`, if there is one
abbrev pub wish_of : List (List ℕ) → Option Wish
wish_of [] = None
wish_of (word ∷ rest) =
    if bytes_eq word (codes "--color") then wish_behind rest else wish_in 1 (when_joined word)

abbrev pub when_by : Option Wish → When
when_by None = Auto
when_by (Some wish) = wish.when

abbrev pub words_by : Option Wish → ℕ
words_by None = 0
words_by (Some wish) = wish.words

-- when texts are painted by the words, and the words behind those that say so
abbrev pub when_of : List (List ℕ) → When
when_of words = when_by (wish_of words)

abbrev pub rest_of : List (List ℕ) → List (List ℕ)
rest_of words = drop (words_by (wish_of words)) words

-- the command tells of traces in texts of lines
abbrev pub tells_lines : List (List ℕ) → Bool
tells_lines [] = false
tells_lines (word ∷ rest) =
    bytes_eq word (codes "check") || bytes_eq word (codes "batch")
    || bytes_eq word (codes "explain") || bytes_eq word (codes "rule")

-- whether texts are wished painted, where they go to a terminal that shows colours or elsewhere
abbrev pub is_wished : When → Bool → Bool
is_wished Always shows = true
is_wished Never shows = false
is_wished Auto shows = shows
