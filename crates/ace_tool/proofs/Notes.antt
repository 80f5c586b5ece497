-- The text of a note is UTF-8.
use Rattle.std.proofs.Common.{◌≡◌, ◌<◌, ℕ, true, nat_le, List, [], ◌∷◌, arith, IsUtf8}
use Rattle.std.proofs.lemmas.Bool.{and_parts}
use Rattle.std.proofs.lemmas.Bool.Decides.{nat_tests}
use Rattle.std.proofs.lemmas.Str.{IsUtf8-from_ascii}
use Rattle.std.proofs.lemmas.Str.Ascii.{IsAscii-nil, IsAscii-cons}
use Rattle.std.specs.Str.{IsAscii}
use Rattle.ace_side.specs.Grammar.{is_note, is_printable}

byte_is_ascii : (byte : ℕ) → is_printable byte ≡ true → byte < 128
byte_is_ascii byte e =
    let small : nat_le byte 126 ≡ true = (and_parts (nat_le 32 byte) (nat_le byte 126) e).1 in
    grind (arith, nat_tests)

is_ascii : (text : List ℕ) → is_note text ≡ true → IsAscii text
is_ascii [] e = IsAscii-nil
is_ascii (byte ∷ text) e =
    let both = and_parts _ _ e in
    IsAscii-cons byte text (byte_is_ascii byte both.0) (is_ascii text both.1)

pub note_is_utf8 : (text : List ℕ) → is_note text ≡ true → IsUtf8 text
note_is_utf8 text e = IsUtf8-from_ascii text (is_ascii text e)

pub ruleset notes = (note_is_utf8)
