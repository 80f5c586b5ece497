-- A line by its word and the fields behind it, where spaces part a name and a text too.
use Rattle.std.specs.Prelude.{◌≡◌, ◌≢◌, ℕ, ◌==◌, List, [], ◌∷◌, decimal, Some, Result, Ok, Err}
use Rattle.std.specs.List.{slice_split}
use Rattle.ace_event.specs.Text.{hex_text}
use Rattle.ace_side.specs.declared.kind.LineKind.{LineKind}
use Rattle.ace_side.specs.declared.kind.LineKind.TheVariants as kind
use Rattle.ace_side.specs.declared.line.SideLine.{SideLine}
use Rattle.ace_side.specs.declared.line.SideLine.TheVariants.{TimeUnit, Port, Addr, Time, Id, Note, Word, End, Broken, Cut}
use Rattle.ace_side.specs.declared.reason.Reason.{Reason}
use Rattle.ace_side.specs.Text.{digits_text}
use Rattle.ace_side.specs.Grammar.{Fits}
use Rattle.ace_side.specs.Reasons.{reason_behind}

abbrev pub cut : List ℕ → List (List ℕ)
cut bytes = slice_split (λ byte. byte == 32) bytes

abbrev pub kind_of : SideLine → LineKind
kind_of (TimeUnit _) = kind.TimeUnit
kind_of (Port _ _) = kind.Port
kind_of (Addr _ _) = kind.Addr
kind_of (Time _ _) = kind.Time
kind_of (Id _ _) = kind.Id
kind_of (Note _ _) = kind.Note
kind_of (Word _ _) = kind.Word
kind_of (End _) = kind.End
kind_of (Broken _) = kind.Broken
kind_of (Cut _) = kind.Cut

abbrev pub fields_behind : SideLine → List (List ℕ)
fields_behind (TimeUnit word) = word ∷ []
fields_behind (Port port name) = hex_text 2 port ∷ cut name
fields_behind (Addr addr real) = hex_text 8 addr ∷ digits_text real ∷ []
fields_behind (Time event time) = decimal event ∷ decimal time ∷ []
fields_behind (Id event id) = decimal event ∷ digits_text id ∷ []
fields_behind (Note event text) = decimal event ∷ cut text
fields_behind (Word word real) = hex_text 8 word ∷ digits_text real ∷ []
fields_behind (End count) = decimal count ∷ []
fields_behind (Broken count) = decimal count ∷ []
fields_behind (Cut count) = decimal count ∷ []

-- The line of this kind with these fields was read, or there is none, for this reason.
abbrev pub IsReadBehind : LineKind → List (List ℕ) → Result SideLine Reason → Type 0
IsReadBehind kind fields (Ok line) =
    Fits line × (kind_of line ≡ kind) × (fields_behind line ≡ fields)
IsReadBehind kind fields (Err reason) =
    (reason ≡ reason_behind (Some kind) fields) × ((line : SideLine)
    → Fits line → kind_of line ≡ kind → fields_behind line ≢ fields)
