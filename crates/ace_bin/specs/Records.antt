-- The records of events. A record is a tag of one byte and the fields behind it.
use Rattle.std.specs.Prelude.{ℕ, ◌-◌, ◌==◌, ◌&&◌, if◌then◌else◌, Bool, true, false, nat_le, List, [], ◌∷◌, slice_index_or}
use Rattle.ace_codes.specs.declared.state.LineState.{LineState}
use Rattle.ace_codes.specs.declared.state.LineState.TheVariants.{I, UC, UD, SC, SD}
use Rattle.ace_event.specs.declared.event.Channel.{Channel}
use Rattle.ace_event.specs.declared.event.Channel.TheVariants.{Read, Write}
use Rattle.ace_event.specs.declared.event.Outcome.{Outcome}
use Rattle.ace_event.specs.declared.event.Outcome.TheVariants.{Ok, Skip, Fail}
use Rattle.ace_event.specs.declared.event.Event.{Event}
use Rattle.ace_event.specs.declared.event.Event.TheVariants.{Ar, R, Rk, Aw, W, B, Wk, Ac, Cr, Cd, G, M, S, L, D, Op, Mem}
use Rattle.ace_bin.specs.Fields.{Field, Port, AtMost, Bytes, fields_bytes}

-- a number that has one digit in a trace of text
abbrev pub digit_byte : Field
digit_byte = AtMost 0x0f

-- 0 or 1
abbrev pub flag_byte : Field
flag_byte = AtMost 1

-- 0 for R, 1 for W
abbrev pub channel_byte : Field
channel_byte = AtMost 1

-- 0 for I, 1 for UC, 2 for UD, 3 for SC, 4 for SD
abbrev pub state_byte : Field
state_byte = AtMost 4

-- 0 for ok, 1 for skip, 2 for fail
abbrev pub outcome_byte : Field
outcome_byte = AtMost 2

abbrev pub address_bytes : Field
address_bytes = Bytes 4

-- The sixteen bytes of a beat. In a word the lowest address is the most significant byte.
abbrev pub word_bytes : Field
word_bytes = Bytes 16

-- The fields of each record, in the order of the tags, from 1 on. A line has four words, in order
-- of address.
abbrev pub records : List (List Field)
records =
    -- AR p id addr snoop dom bar lock
    (Port ∷ digit_byte ∷ address_bytes ∷ digit_byte ∷ AtMost 3 ∷ AtMost 3 ∷ flag_byte ∷ [])
    -- R p id resp last word
    ∷ (Port ∷ digit_byte ∷ digit_byte ∷ flag_byte ∷ word_bytes ∷ [])
    -- RK p st
    ∷ (Port ∷ state_byte ∷ [])
    -- AW p id addr snoop dom bar
    ∷ (Port ∷ digit_byte ∷ address_bytes ∷ AtMost 7 ∷ AtMost 3 ∷ AtMost 3 ∷ [])
    -- W p strb last word
    ∷ (Port ∷ Bytes 2 ∷ flag_byte ∷ word_bytes ∷ [])
    -- B p id resp
    ∷ (Port ∷ digit_byte ∷ AtMost 3 ∷ [])
    -- WK p st
    ∷ (Port ∷ state_byte ∷ [])
    -- AC p addr snoop
    ∷ (Port ∷ address_bytes ∷ digit_byte ∷ [])
    -- CR p resp st
    ∷ (Port ∷ AtMost 0x1f ∷ state_byte ∷ [])
    -- CD p last word
    ∷ (Port ∷ flag_byte ∷ word_bytes ∷ [])
    -- G p c id
    ∷ (Port ∷ channel_byte ∷ digit_byte ∷ [])
    -- M p c id line
    ∷ (Port ∷ channel_byte ∷ digit_byte ∷ word_bytes ∷ word_bytes ∷ word_bytes ∷ word_bytes ∷ [])
    -- S p addr st
    ∷ (Port ∷ address_bytes ∷ state_byte ∷ [])
    -- L p addr w x word
    ∷ (Port ∷ address_bytes ∷ AtMost 3 ∷ flag_byte ∷ word_bytes ∷ [])
    -- D p addr strobe x line
    ∷ (Port ∷ address_bytes ∷ Bytes 8 ∷ flag_byte ∷ word_bytes ∷ word_bytes ∷ word_bytes
    ∷ word_bytes ∷ [])
    -- OP p k res
    ∷ (Port ∷ Bytes 2 ∷ outcome_byte ∷ [])
    -- MEM addr line
    ∷ (address_bytes ∷ word_bytes ∷ word_bytes ∷ word_bytes ∷ word_bytes ∷ [])
    ∷ []

-- the fields of the record with this tag
abbrev pub fields_of : ℕ → List Field
fields_of tag = slice_index_or records (tag - 1) []

-- whether a trace of the version has records with this tag: MEM, whose tag is the last one, is no
-- record of version 1
abbrev pub is_tag : ℕ → ℕ → Bool
is_tag version tag = nat_le 1 tag && nat_le tag (if version == 1 then 0x10 else 0x11)

-- the tag of an event
abbrev pub tag_of : Event → ℕ
tag_of (Ar port id addr snoop dom bar lock) = 0x01
tag_of (R port id resp last word) = 0x02
tag_of (Rk port st) = 0x03
tag_of (Aw port id addr snoop dom bar) = 0x04
tag_of (W port strb last word) = 0x05
tag_of (B port id resp) = 0x06
tag_of (Wk port st) = 0x07
tag_of (Ac port addr snoop) = 0x08
tag_of (Cr port resp st) = 0x09
tag_of (Cd port last word) = 0x0a
tag_of (G port chan id) = 0x0b
tag_of (M port chan id line) = 0x0c
tag_of (S port addr st) = 0x0d
tag_of (L port addr w x word) = 0x0e
tag_of (D port addr strobe x line) = 0x0f
tag_of (Op port k res) = 0x10
tag_of (Mem addr line) = 0x11

abbrev pub flag_number : Bool → ℕ
flag_number false = 0
flag_number true = 1

abbrev pub channel_number : Channel → ℕ
channel_number Read = 0
channel_number Write = 1

abbrev pub state_number : LineState → ℕ
state_number I = 0
state_number UC = 1
state_number UD = 2
state_number SC = 3
state_number SD = 4

abbrev pub outcome_number : Outcome → ℕ
outcome_number Ok = 0
outcome_number Skip = 1
outcome_number Fail = 2

-- the numbers of the fields of an event
abbrev pub numbers_of : Event → List ℕ
numbers_of (Ar port id addr snoop dom bar lock) =
    port ∷ id ∷ addr ∷ snoop ∷ dom ∷ bar ∷ flag_number lock ∷ []
numbers_of (R port id resp last word) = port ∷ id ∷ resp ∷ flag_number last ∷ word ∷ []
numbers_of (Rk port st) = port ∷ state_number st ∷ []
numbers_of (Aw port id addr snoop dom bar) = port ∷ id ∷ addr ∷ snoop ∷ dom ∷ bar ∷ []
numbers_of (W port strb last word) = port ∷ strb ∷ flag_number last ∷ word ∷ []
numbers_of (B port id resp) = port ∷ id ∷ resp ∷ []
numbers_of (Wk port st) = port ∷ state_number st ∷ []
numbers_of (Ac port addr snoop) = port ∷ addr ∷ snoop ∷ []
numbers_of (Cr port resp st) = port ∷ resp ∷ state_number st ∷ []
numbers_of (Cd port last word) = port ∷ flag_number last ∷ word ∷ []
numbers_of (G port chan id) = port ∷ channel_number chan ∷ id ∷ []
numbers_of (M port chan id line) = port ∷ channel_number chan ∷ id ∷ line.words
numbers_of (S port addr st) = port ∷ addr ∷ state_number st ∷ []
numbers_of (L port addr w x word) = port ∷ addr ∷ w ∷ flag_number x ∷ word ∷ []
numbers_of (D port addr strobe x line) = port ∷ addr ∷ strobe ∷ flag_number x ∷ line.words
numbers_of (Op port k res) = port ∷ k ∷ outcome_number res ∷ []
numbers_of (Mem addr line) = addr ∷ line.words

-- the record of an event
abbrev pub event_bytes : Event → List ℕ
event_bytes event = tag_of event ∷ fields_bytes (fields_of (tag_of event)) (numbers_of event)
