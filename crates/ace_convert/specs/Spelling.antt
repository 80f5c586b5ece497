-- How a trace is spelt, and what is made of one.
use Rattle.std.specs.Prelude.{ℕ, List}
use Rattle.ace_event.specs.declared.header.Header.{Header}
use Rattle.ace_event.specs.declared.event.Event.{Event}
use Rattle.ace_event.specs.Text.{trace_text, event_text, line_text}
use Rattle.ace_bin.specs.Binary.{binary_of}
use Rattle.ace_bin.specs.Records.{event_bytes}
use Rattle.ace_convert.specs.Form.{Form, Text, Binary}
use Rattle.ace_convert.specs.declared.conversion.Conversion.{Conversion}
use Rattle.ace_convert.specs.declared.conversion.Conversion.TheVariants.{Show, Migrate, Pack, Unpack}

-- a whole trace in a form
abbrev pub spelt : Form → Header → List Event → List ℕ
spelt Text header events = trace_text header events
spelt Binary header events = binary_of header events

-- what one more event of a trace of a version adds to it
abbrev pub event_spelt : Form → ℕ → Event → List ℕ
event_spelt Text version event = line_text (event_text version event)
event_spelt Binary version event = event_bytes event

-- the form that is read
abbrev pub form_read : Conversion → Form
form_read Show = Text
form_read Migrate = Text
form_read Pack = Text
form_read Unpack = Binary

-- the form that is written
abbrev pub form_written : Conversion → Form
form_written Show = Text
form_written Migrate = Text
form_written Pack = Binary
form_written Unpack = Text

-- the same ports in version 2
abbrev pub in_version_2 : Header → Header
in_version_2 header = record { version = 2; ports = header.ports; ace = header.ace }

-- the header that is written: that which was read, or the same in version 2
abbrev pub header_written : Conversion → Header → Header
header_written Show header = header
header_written Migrate header = in_version_2 header
header_written Pack header = header
header_written Unpack header = header

-- what is written of a trace
abbrev pub converted : Conversion → Header → List Event → List ℕ
converted conversion header events =
    spelt (form_written conversion) (header_written conversion header) events
