-- The text of a trace, in bytes: two header lines, and a line for each event.
use Rattle.std.specs.Prelude.{ℕ, zero, suc, ◌/◌, ◌%◌, ◌==◌, if◌then◌else◌, Bool, true, false, List, [], ◌∷◌, ◌++◌, codes}
use Rattle.std.specs.List.{flat_map, join_with_byte}
use Rattle.std.specs.Char.{digit_char}
use Rattle.ace_codes.specs.declared.state.LineState.{LineState}
use Rattle.ace_codes.specs.declared.state.LineState.TheVariants.{I, UC, UD, SC, SD}
use Rattle.ace_event.specs.declared.line.Line.{Line}
use Rattle.ace_event.specs.declared.header.Header.{Header}
use Rattle.ace_event.specs.declared.event.Channel.{Channel}
use Rattle.ace_event.specs.declared.event.Channel.TheVariants.{Read, Write}
use Rattle.ace_event.specs.declared.event.Outcome.{Outcome}
use Rattle.ace_event.specs.declared.event.Outcome.TheVariants.{Ok, Skip, Fail}
use Rattle.ace_event.specs.declared.event.Event.{Event}
use Rattle.ace_event.specs.declared.event.Event.TheVariants.{Ar, R, Rk, Aw, W, B, Wk, Ac, Cr, Cd, G, M, S, L, D, Op, Mem}
use Rattle.ace_event.specs.Ports.{port_letters}

-- so many lower-case hexadecimal digits of a number, the most significant first
unfoldable pub hex_text : ℕ → ℕ → List ℕ
hex_text zero n = []
hex_text (suc count) n = hex_text count (n / 16) ++ digit_char (n % 16) ∷ []

-- The four words of a line in order of address. In a word the lowest address is the most
-- significant byte, so each is written as the number that it is.
abbrev pub line_digits : Line → List ℕ
line_digits line = flat_map (hex_text 32) line.words

abbrev pub flag_text : Bool → List ℕ
flag_text false = codes "0"
flag_text true = codes "1"

abbrev pub state_text : LineState → List ℕ
state_text I = codes "I"
state_text UC = codes "UC"
state_text UD = codes "UD"
state_text SC = codes "SC"
state_text SD = codes "SD"

abbrev pub channel_text : Channel → List ℕ
channel_text Read = codes "R"
channel_text Write = codes "W"

abbrev pub outcome_text : Outcome → List ℕ
outcome_text Ok = codes "ok"
outcome_text Skip = codes "skip"
outcome_text Fail = codes "fail"

-- how many digits a port has in a trace of a version: one in version 1, two in version 2
abbrev pub port_digits : ℕ → ℕ
port_digits version = if version == 1 then 1 else 2

abbrev pub port_text : ℕ → ℕ → List ℕ
port_text version port = hex_text (port_digits version) port

-- the record word of an event, and its fields, in a trace of a version
abbrev pub fields : ℕ → Event → List (List ℕ)
fields version (Ar port id addr snoop dom bar lock) =
    codes "AR" ∷ port_text version port ∷ hex_text 1 id ∷ hex_text 8 addr ∷ hex_text 1 snoop
    ∷ hex_text 1 dom ∷ hex_text 1 bar ∷ flag_text lock ∷ []
fields version (R port id resp last word) =
    codes "R" ∷ port_text version port ∷ hex_text 1 id ∷ hex_text 1 resp
    ∷ flag_text last ∷ hex_text 32 word ∷ []
fields version (Rk port st) = codes "RK" ∷ port_text version port ∷ state_text st ∷ []
fields version (Aw port id addr snoop dom bar) =
    codes "AW" ∷ port_text version port ∷ hex_text 1 id ∷ hex_text 8 addr ∷ hex_text 1 snoop
    ∷ hex_text 1 dom ∷ hex_text 1 bar ∷ []
fields version (W port strb last word) =
    codes "W" ∷ port_text version port ∷ hex_text 4 strb ∷ flag_text last ∷ hex_text 32 word ∷ []
fields version (B port id resp) =
    codes "B" ∷ port_text version port ∷ hex_text 1 id ∷ hex_text 1 resp ∷ []
fields version (Wk port st) = codes "WK" ∷ port_text version port ∷ state_text st ∷ []
fields version (Ac port addr snoop) =
    codes "AC" ∷ port_text version port ∷ hex_text 8 addr ∷ hex_text 1 snoop ∷ []
fields version (Cr port resp st) =
    codes "CR" ∷ port_text version port ∷ hex_text 2 resp ∷ state_text st ∷ []
fields version (Cd port last word) =
    codes "CD" ∷ port_text version port ∷ flag_text last ∷ hex_text 32 word ∷ []
fields version (G port chan id) =
    codes "G" ∷ port_text version port ∷ channel_text chan ∷ hex_text 1 id ∷ []
fields version (M port chan id line) =
    codes "M" ∷ port_text version port ∷ channel_text chan ∷ hex_text 1 id ∷ line_digits line ∷ []
fields version (S port addr st) =
    codes "S" ∷ port_text version port ∷ hex_text 8 addr ∷ state_text st ∷ []
fields version (L port addr w x word) =
    codes "L" ∷ port_text version port ∷ hex_text 8 addr ∷ hex_text 1 w
    ∷ flag_text x ∷ hex_text 32 word ∷ []
fields version (D port addr strobe x line) =
    codes "D" ∷ port_text version port ∷ hex_text 8 addr ∷ hex_text 16 strobe
    ∷ flag_text x ∷ line_digits line ∷ []
fields version (Op port k res) =
    codes "OP" ∷ port_text version port ∷ hex_text 4 k ∷ outcome_text res ∷ []
fields version (Mem addr line) = codes "MEM" ∷ hex_text 8 addr ∷ line_digits line ∷ []

-- The line of an event, without its line feed: one space stands between each two fields.
abbrev pub event_text : ℕ → Event → List ℕ
event_text version event = join_with_byte 32 (fields version event)

-- a line and its line feed
abbrev pub line_text : List ℕ → List ℕ
line_text line = line ++ 10 ∷ []

-- the first header line, without its line feed
abbrev pub version_text : ℕ → List ℕ
version_text version = if version == 1 then codes "ACE 1" else codes "ACE 2"

-- the two header lines
abbrev pub header_text : Header → List ℕ
header_text header =
    line_text (version_text header.version) ++ line_text (codes "PORTS " ++ port_letters header)

-- the lines of the events, oldest first, in a trace of a version
abbrev pub events_text : ℕ → List Event → List ℕ
events_text version events = flat_map (λ event. line_text (event_text version event)) events

-- a whole trace
abbrev pub trace_text : Header → List Event → List ℕ
trace_text header events = header_text header ++ events_text header.version events
