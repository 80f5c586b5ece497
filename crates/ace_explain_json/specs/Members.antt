-- Values of members of a JSON object.
use Rattle.std.specs.Prelude.{ℕ, ◌==◌, ◌++◌, if◌then◌else◌, List, [], ◌∷◌, Option, Some, None, codes, flat_map}
use Rattle.ace_batch.specs.Escapes.{json_text}
use Rattle.ace_event.specs.Text.{hex_text}
use Rattle.ace_event_words.specs.KindWords.{snoop_words}
use Rattle.ace_event_words.specs.Sentences.{kind_words, record_column}
use Rattle.ace_event_words.specs.declared.deed.Deed.{Deed}
use Rattle.ace_event_words.specs.declared.deed.Deed.TheVariants.{Ar, R, Rk, Aw, W, B, Wk, Ac, G, M}
use Rattle.ace_event_words.specs.declared.deed.Kind.{Kind}

-- a text, and a text or null
unfoldable pub quoted : List ℕ → List ℕ
quoted text = codes "\"" ++ json_text text ++ codes "\""

abbrev pub quoted_if : Option (List ℕ) → List ℕ
quoted_if None = codes "null"
quoted_if (Some text) = quoted text

-- the address of a line, if there is one
abbrev pub address_json : Option ℕ → List ℕ
address_json None = codes "null"
address_json (Some line) = codes "\"" ++ hex_text 8 line ++ codes "\""

-- the record of an event: its column without the spaces that fill it
abbrev pub letter : ℕ → List ℕ
letter byte = if byte == 32 then [] else byte ∷ []

unfoldable pub record_json : Deed → List ℕ
record_json deed = codes "\"" ++ flat_map letter (record_column deed) ++ codes "\""

-- what the transaction is called that the event belongs to, and of an AC the snoop
abbrev pub called : Option Kind → Option (List ℕ)
called None = None
called (Some kind) = Some (kind_words kind)

abbrev pub kind_in : Deed → Option (List ℕ)
kind_in (Ar p kind id lock) = Some (kind_words kind)
kind_in (R p kind resp) = called kind
kind_in (Rk p kind st) = called kind
kind_in (Aw p kind id) = Some (kind_words kind)
kind_in (W p kind) = called kind
kind_in (B p kind resp) = called kind
kind_in (Wk p kind st) = called kind
kind_in (Ac p snoop) = Some (snoop_words snoop)
kind_in (G p kind) = called kind
kind_in (M p kind) = called kind
kind_in deed = None
