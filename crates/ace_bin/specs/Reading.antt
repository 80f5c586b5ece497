-- How bytes read as a binary trace.
use Rattle.std.specs.Prelude.{◌≡◌, ◌≢◌, ℕ, ◌<◌, ◌≤◌, ◌==◌, if◌then◌else◌, nat_lt, List, [], ◌∷◌, ◌++◌, length, take, slice_index, Option, None, Some}
use Rattle.std.specs.List.{AllByRecursion, count_by}
use Rattle.ace_event.specs.declared.header.Header.{Header}
use Rattle.ace_event.specs.declared.event.Event.{Event}
use Rattle.ace_event.specs.Ports.{IsHeader, port_letters, most_letters}
use Rattle.ace_event.specs.Range.{InRange}
use Rattle.ace_bin.specs.declared.reason.BinReason.{BinReason}
use Rattle.ace_bin.specs.declared.reason.BinReason.TheVariants.{Z1, Z2, Z3, Z4}
use Rattle.ace_bin.specs.Fields.{Field, number_at, size_of_all, all_fit, numbers_at}
use Rattle.ace_bin.specs.Records.{fields_of, is_tag}
use Rattle.ace_bin.specs.Binary.{magic, header_size, binary_of}

abbrev pub number_of_reason : BinReason → ℕ
number_of_reason Z1 = 1
number_of_reason Z2 = 2
number_of_reason Z3 = 3
number_of_reason Z4 = 4

-- each of them is below 256
abbrev pub AreBytes : List ℕ → Type 0
AreBytes bytes = (place : ℕ) → slice_index bytes place < 256

-- the bytes are these, and then a rest
abbrev pub BeginsWith : List ℕ → List ℕ → Type 0
BeginsWith bytes front = (rest : List ℕ) × (bytes ≡ front ++ rest)

-- the numbers that stand where a header has its own
abbrev pub header_at : List ℕ → Header
header_at bytes =
    record { version = number_at 1 4 bytes; ports = number_at 1 5 bytes; ace = number_at 4 6 bytes }

-- the numbers of ports of each kind are within the limits of the version
abbrev pub AreFew : Header → Type 0
AreFew header =
    (count_by (λ letter. letter == 65) (port_letters header) ≤ most_letters header.version)
    × (count_by (λ letter. letter == 76) (port_letters header) ≤ most_letters header.version)

-- The header is right: it begins as it has to, its version is 1 or 2, the numbers of its ports are
-- within the limits of the version, and no bit of `ace` at or above the number of ports is 1.
pub record IsRightHeader (bytes : List ℕ) : Type 0 where
  pub begins : take 4 bytes ≡ magic
  pub fits : IsHeader (header_at bytes)

-- The header is malformed, at byte 0: the input ends within it, or it isn't right.
abbrev pub HasBadHeader : List ℕ → ℕ → BinReason → Type 0
HasBadHeader bytes byte Z1 = (byte ≡ 0) × (length bytes < header_size)
HasBadHeader bytes byte Z2 = (byte ≡ 0) × (header_size ≤ length bytes) × ¬ IsRightHeader bytes
HasBadHeader bytes byte Z3 = ⊥
HasBadHeader bytes byte Z4 = ⊥

-- the least reason of the fields behind a tag of the version
unfoldable pub fields_reason : ℕ → List Field → List ℕ → Option BinReason
fields_reason version fields bytes =
    if nat_lt (length bytes) (size_of_all fields) then Some Z1
    else (if all_fit version fields (numbers_at fields 0 bytes) then None else Some Z4)

-- The least reason why no record of an event in range stands at the front, in a trace of a version:
-- the input ends within the record, its tag isn't one of the version, or a field is out of range.
-- There is none where nothing stands there.
abbrev pub record_reason : ℕ → List ℕ → Option BinReason
record_reason version [] = None
record_reason version (tag ∷ bytes) =
    if is_tag version tag then fields_reason version (fields_of tag) bytes else Some Z3

-- the most events of a trace
abbrev pub most_events : ℕ
most_events = 1048576

-- How bytes end: after a whole trace, after the most events of a trace with bytes left, or before a
-- malformed record, with the number of bytes before it and the reason.
pub data Ending : Type 0 where
  Whole : Ending
  Full : Ending
  Bad : ℕ → BinReason → Ending

-- what stands after the header and the events, by the ending
abbrev pub Ends : Header → Ending → List Event → List ℕ → Type 0
Ends header Whole events rest = (length events ≤ most_events) × (rest ≡ [])
Ends header Full events rest = (length events ≡ most_events) × (rest ≢ [])
Ends header (Bad byte reason) events rest =
    (length events < most_events) × (byte ≡ length (binary_of header events))
    × (record_reason header.version rest ≡ Some reason)

-- The bytes are this header and the records of these events, oldest first, and then end so. Bytes
-- with a malformed header have no such reading.
pub record ReadsBinary (bytes : List ℕ) (header : Header) (events : List Event)
    (ending : Ending) : Type 0 where
  pub header_is_right : IsHeader header
  pub events_in_range : AllByRecursion (InRange header.version) events
  pub parts : (rest : List ℕ) × (bytes ≡ binary_of header events ++ rest)
      × Ends header ending events rest
