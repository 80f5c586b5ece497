-- The words that tell where a word stands.
use Rattle.std.specs.Prelude.{ℕ, ◌++◌, ◌==◌, Bool, if◌then◌else◌, List, codes, decimal}
use Rattle.ace_event.specs.Text.{hex_text}
use Rattle.ace_origins.specs.declared.origins.Holder.{Holder}
use Rattle.ace_origins.specs.declared.origins.Holder.TheVariants.{Memory, Copy}
use Rattle.ace_origins.specs.declared.origins.Origin.{Origin}
use Rattle.ace_origins.specs.declared.origins.Origin.TheVariants.{Same, Zeros, OtherWord, OtherLine, Nowhere}

-- since when memory has it
unfoldable pub never_written : List ℕ
never_written = codes ", which was never written"

unfoldable pub since_words : ℕ → List ℕ
since_words number =
    if number == 0 then never_written else codes " since event " ++ decimal number

-- whose copy it is
unfoldable pub has_words : Bool → List ℕ
has_words held = if held then codes " has" else codes " had when it held the line"

unfoldable pub copy_words : ℕ → Bool → List ℕ
copy_words p held = codes "port " ++ decimal p ++ has_words held

-- what has it
unfoldable pub holder_words : Holder → List ℕ
holder_words (Memory since) = codes "memory has" ++ since_words since
holder_words (Copy p held) = copy_words p held

unfoldable pub word_name : ℕ → List ℕ
word_name k = codes "word " ++ decimal k ++ codes " of "

unfoldable pub line_name : ℕ → List ℕ
line_name l = codes "another line, " ++ hex_text 8 l

unfoldable pub holder_part : Holder → List ℕ
holder_part x = codes ", which " ++ holder_words x

unfoldable pub zeros_words : List ℕ
zeros_words = codes "it is 0, as in a line that was never written"

unfoldable pub nowhere_words : List ℕ
nowhere_words = codes "no line has this word now"

-- the word that came
unfoldable pub origin_words : Origin → List ℕ
origin_words (Same x) = codes "it is what " ++ holder_words x
origin_words Zeros = zeros_words
origin_words (OtherWord k x) = codes "it is " ++ word_name k ++ codes "the line" ++ holder_part x
origin_words (OtherLine l k x) = codes "it is " ++ word_name k ++ line_name l ++ holder_part x
origin_words Nowhere = nowhere_words
