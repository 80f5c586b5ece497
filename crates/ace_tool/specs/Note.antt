-- The notes of a side file.
use Rattle.std.specs.Prelude.{ℕ, List, [], ◌∷◌, Option, None, Some, option_map}
use Rattle.arrayvec.specs.ArrayString.{ArrayString}
use Rattle.ace_side.specs.declared.line.SideLine.{SideLine}
use Rattle.ace_side.specs.declared.line.SideLine.TheVariants.{Note}

-- the text of a note that was kept, if one was
abbrev pub text_of : Option ArrayString → Option (List ℕ)
text_of note = option_map (λ text. text.bytes) note

-- the last note, with one more line
abbrev pub note_behind : Option (List ℕ) → SideLine → Option (List ℕ)
note_behind before (Note event text) = Some text
note_behind before _ = before

-- the last note of these lines, the newest of which stands first
abbrev pub last_note : List SideLine → Option (List ℕ)
last_note [] = None
last_note (line ∷ past) = note_behind (last_note past) line
