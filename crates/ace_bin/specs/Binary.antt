-- A binary trace: a header of ten bytes, and a record for each event.
use Rattle.std.specs.Prelude.{ℕ, List, ◌∷◌, ◌++◌, codes}
use Rattle.std.specs.List.{flat_map}
use Rattle.ace_event.specs.declared.header.Header.{Header}
use Rattle.ace_event.specs.declared.event.Event.{Event}
use Rattle.ace_bin.specs.Fields.{number_bytes}
use Rattle.ace_bin.specs.Records.{event_bytes}

-- the first four bytes: 41, 43, 45 and 42 (hexadecimal)
abbrev pub magic : List ℕ
magic = codes "ACEB"

-- then the version, the number of ports, and which of them are ACE ports
abbrev pub header_bytes : Header → List ℕ
header_bytes header = magic ++ header.version ∷ header.ports ∷ number_bytes 4 header.ace

-- how many bytes a header has
abbrev pub header_size : ℕ
header_size = 10

-- the records of the events, oldest first
abbrev pub events_bytes : List Event → List ℕ
events_bytes events = flat_map event_bytes events

-- a whole trace
abbrev pub binary_of : Header → List Event → List ℕ
binary_of header events = header_bytes header ++ events_bytes events
