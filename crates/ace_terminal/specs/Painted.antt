-- A text with colours, as a terminal shows it.
use Rattle.std.specs.Prelude.{ℕ, ◌==◌, List, [], ◌∷◌, ◌++◌, codes, drop, take, if◌then◌else◌}
use Rattle.ace_terminal.specs.Looks.{look_of}
use Rattle.ace_terminal.specs.declared.looks.Colour.{Colour}
use Rattle.ace_terminal.specs.declared.looks.Colour.TheVariants.{Red, Blue}
use Rattle.ace_terminal.specs.declared.looks.Look.{Look}

-- ESC [ and numbers and m: what follows is bold, red, blue, or as it was before
abbrev pub bold_start : List ℕ
bold_start = 27 ∷ codes "[1m"

abbrev pub colour_start : Colour → List ℕ
colour_start Red = 27 ∷ codes "[1;31m"
colour_start Blue = 27 ∷ codes "[1;34m"

abbrev pub style_end : List ℕ
style_end = 27 ∷ codes "[0m"

-- the bytes in a style, if there are any
abbrev pub in_style : List ℕ → List ℕ → List ℕ
in_style start [] = []
in_style start (b ∷ bytes) = start ++ (b ∷ bytes) ++ style_end

-- the line in this look
unfoldable pub painted_as : Look → List ℕ → List ℕ
painted_as look line =
    in_style bold_start (take look.bold line)
    ++ take look.plain (drop look.bold line)
    ++ in_style (colour_start look.colour)
    (take look.coloured (drop look.plain (drop look.bold line)))
    ++ drop look.coloured (drop look.plain (drop look.bold line))

unfoldable pub painted_line : List ℕ → List ℕ
painted_line line = painted_as (look_of line) line

-- the text painted line by line, behind the front of a line
abbrev pub painted_behind : List ℕ → List ℕ → List ℕ
painted_behind front [] = painted_line front
painted_behind front (b ∷ text) =
    if b == 10 then painted_line front ++ 10 ∷ painted_behind [] text
    else painted_behind (front ++ b ∷ []) text

-- the text painted line by line
unfoldable pub painted : List ℕ → List ℕ
painted text = painted_behind [] text
