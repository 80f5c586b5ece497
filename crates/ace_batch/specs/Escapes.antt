-- Texts that stand in others, in UTF-8.
use Rattle.std.specs.Prelude.{ℕ, ◌/◌, ◌%◌, ◌==◌, ◌&&◌, ◌||◌, ◌++◌, nat_lt, Bool, if◌then◌else◌, List, [], ◌∷◌, codes, flat_map}
use Rattle.std.specs.Char.{digit_char}

-- A byte in a JSON string: quotes, backslashes and control characters are escaped.
abbrev pub json_byte : ℕ → List ℕ
json_byte byte =
    if byte == 34 then codes "\\\"" else if byte == 92 then codes "\\\\"
    else if byte == 10 then codes "\\n"
    else if nat_lt byte 32 then codes "\\u00" ++ digit_char (byte / 16)
    ∷ digit_char (byte % 16) ∷ []
    else byte ∷ []

abbrev pub json_text : List ℕ → List ℕ
json_text text = flat_map json_byte text

-- A byte in XML, behind these two. What has a meaning there is escaped. Control characters, which
-- may not stand there, become `?`, but for line feeds where these may stand; U+FFFE and U+FFFF,
-- which may not either, become U+FFFD.
abbrev pub xml_byte : Bool → ℕ → ℕ → ℕ → List ℕ
xml_byte lines second first byte =
    if byte == 38 then codes "&amp;" else if byte == 60 then codes "&lt;"
    else if byte == 62 then codes "&gt;" else if byte == 34 then codes "&quot;"
    else if lines && (byte == 10) then codes "\n"
    else if nat_lt byte 32 || (byte == 127) then codes "?"
    else if (second == 0xef) && ((first == 0xbf) && ((byte == 0xbe) || (byte == 0xbf)))
    then 0xbd ∷ []
    else byte ∷ []

-- a text behind these two bytes
abbrev pub xml_from : Bool → ℕ → ℕ → List ℕ → List ℕ
xml_from lines second first [] = []
xml_from lines second first (byte ∷ rest) =
    xml_byte lines second first byte ++ xml_from lines first byte rest

abbrev pub xml_text : Bool → List ℕ → List ℕ
xml_text lines text = xml_from lines 0 0 text
