-- Which events of a line `chart` draws, by the words of its options.
use Rattle.std.specs.Prelude.{◌≡◌, ◌≤◌, ◌<◌, ◌+◌, ◌-◌, ◌^◌, ◌==◌, ℕ, Bool, true, false, List, [], ◌∷◌, length, nat_lt, replicate, slice_set, Option, None, Some}
use Rattle.std.specs.List.{after_first, before_first, position_or_len, slice_split}
use Rattle.ace_call.specs.Number.{IsNumber}
use Rattle.ace_chart_rows.specs.declared.selection.Selection.{Selection}
use Rattle.ace_tool.specs.Asked.{IsLimit}
use Rattle.ace_tool.specs.ChartOptions.{ChartGiven}

-- `.` stands in the word
abbrev pub is_point : ℕ → Bool
is_point byte = byte == 46

abbrev pub has_point : List ℕ → Bool
has_point word = nat_lt (position_or_len is_point word) (length word)

-- the word is a point and a number behind it
abbrev pub IsPointed : List ℕ → ℕ → Type 0
IsPointed word number = (has_point word ≡ true) × (before_first is_point word ≡ [])
    × IsNumber (after_first is_point word) number

-- These are a number, and a point and another number, which isn't less.
abbrev pub AreEnds : List ℕ → List ℕ → ℕ → ℕ → Type 0
AreEnds front back first last = IsNumber front first × IsPointed back last × (first ≤ last)

-- The word is `A..B`, and A isn't greater than B.
abbrev pub IsRange : List ℕ → ℕ → ℕ → Type 0
IsRange word first last = (has_point word ≡ true)
    × AreEnds (before_first is_point word) (after_first is_point word) first last

-- The word is the number of an event: the range goes from twenty before it to twenty behind it.
abbrev pub IsAround : List ℕ → ℕ → ℕ → Type 0
IsAround word first last = (number : ℕ) × IsLimit (2 ^ 64 - 21) (Some word) number
    × (first ≡ number - 20) × (last ≡ number + 20)

-- The words of `--events` and `--around`, which exclude each other, say this range; without both
-- it is each event.
abbrev pub IsSpan : Option (List ℕ) → Option (List ℕ) → ℕ → ℕ → Type 0
IsSpan None None first last = (first ≡ 1) × (last ≡ 2 ^ 64 - 1)
IsSpan (Some word) None first last = IsRange word first last
IsSpan None (Some word) first last = IsAround word first last
IsSpan (Some word) (Some word') first last = ⊥

-- The word is the number of a port.
abbrev pub IsPort : List ℕ → ℕ → Type 0
IsPort word p = IsNumber word p × (p < 32)

-- The words name ports, which with those so far are these.
abbrev pub NamePorts : List (List ℕ) → List Bool → List Bool → Type 0
NamePorts [] so_far ports = ports ≡ so_far
NamePorts (word ∷ words) so_far ports =
    (p : ℕ) × IsPort word p × NamePorts words (slice_set so_far p true) ports

-- The word of `--port` names these ports, with commas between; without one none are chosen.
abbrev pub is_comma : ℕ → Bool
is_comma byte = byte == 44

abbrev pub ArePorts : Option (List ℕ) → Option (List Bool) → Type 0
ArePorts None ports = ports ≡ None
ArePorts (Some word) ports = (chosen : List Bool)
    × NamePorts (slice_split is_comma word) (replicate 32 false) chosen × (ports ≡ Some chosen)

-- The options select these events.
pub record Selects (given : ChartGiven) (s : Selection) : Type 0 where
  pub span : IsSpan given.events given.around s.first s.last
  pub ports : ArePorts given.port s.ports
