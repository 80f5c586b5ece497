-- The fields of the records, as docs/TRACE.md names them.
use Rattle.std.specs.Prelude.{ℕ, ◌==◌, if◌then◌else◌, List, [], ◌∷◌, codes, Option}
use Rattle.std.specs.Map.{lookup}
use Rattle.std.specs.Str.{bytes_eq}
use Rattle.ace_grammar.specs.declared.shapes.Shape.{Shape}
use Rattle.ace_grammar.specs.declared.shapes.Shape.TheVariants as shape
use Rattle.ace_malformed.specs.declared.field.Field.{Field}
use Rattle.ace_malformed.specs.declared.field.Field.TheVariants.{Port, Id, Address, Snoop, WriteSnoop, Domain, Barrier, Lock, ReadResponse, WriteResponse, SnoopResponse, Last, Exclusive, Place, Word, Line, WordStrobes, LineStrobes, Operation, Channel, State, Outcome}

-- what a field is called
abbrev pub field_name : Field → List ℕ
field_name Port = codes "p"
field_name Id = codes "id"
field_name Address = codes "addr"
field_name Snoop = codes "snoop"
field_name WriteSnoop = codes "snoop"
field_name Domain = codes "dom"
field_name Barrier = codes "bar"
field_name Lock = codes "lock"
field_name ReadResponse = codes "resp"
field_name WriteResponse = codes "resp"
field_name SnoopResponse = codes "resp"
field_name Last = codes "last"
field_name Exclusive = codes "x"
field_name Place = codes "w"
field_name Word = codes "word"
field_name Line = codes "line"
field_name WordStrobes = codes "strb"
field_name LineStrobes = codes "strobe"
field_name Operation = codes "k"
field_name Channel = codes "c"
field_name State = codes "st"
field_name Outcome = codes "res"

-- what it may be
abbrev pub shape_of : Field → Shape
shape_of Port = shape.Port
shape_of Id = shape.Digits 1
shape_of Address = shape.Digits 8
shape_of Snoop = shape.Digits 1
shape_of WriteSnoop = shape.AtMost 7
shape_of Domain = shape.AtMost 3
shape_of Barrier = shape.AtMost 3
shape_of Lock = shape.AtMost 1
shape_of ReadResponse = shape.Digits 1
shape_of WriteResponse = shape.AtMost 3
shape_of SnoopResponse = shape.SnoopResponse
shape_of Last = shape.AtMost 1
shape_of Exclusive = shape.AtMost 1
shape_of Place = shape.AtMost 3
shape_of Word = shape.Digits 32
shape_of Line = shape.Digits 128
shape_of WordStrobes = shape.Digits 4
shape_of LineStrobes = shape.Digits 16
shape_of Operation = shape.Digits 4
shape_of Channel = shape.ChannelWord
shape_of State = shape.StateWord
shape_of Outcome = shape.OutcomeWord

-- each record word with the fields behind it: those of what a port does on its own
abbrev pub own_fields : List (List ℕ × List Field)
own_fields =
    (codes "S", Port ∷ Address ∷ State ∷ [])
    ∷ (codes "L", Port ∷ Address ∷ Place ∷ Exclusive ∷ Word ∷ [])
    ∷ (codes "D", Port ∷ Address ∷ LineStrobes ∷ Exclusive ∷ Line ∷ [])
    ∷ (codes "OP", Port ∷ Operation ∷ Outcome ∷ [])
    ∷ []

-- before them those of the snoop channels and of the interconnect
abbrev pub snoop_fields : List (List ℕ × List Field)
snoop_fields =
    (codes "AC", Port ∷ Address ∷ Snoop ∷ [])
    ∷ (codes "CR", Port ∷ SnoopResponse ∷ State ∷ [])
    ∷ (codes "CD", Port ∷ Last ∷ Word ∷ [])
    ∷ (codes "G", Port ∷ Channel ∷ Id ∷ [])
    ∷ (codes "M", Port ∷ Channel ∷ Id ∷ Line ∷ [])
    ∷ own_fields

-- before them those of the write channels
abbrev pub write_fields : List (List ℕ × List Field)
write_fields =
    (codes "AW", Port ∷ Id ∷ Address ∷ WriteSnoop ∷ Domain ∷ Barrier ∷ [])
    ∷ (codes "W", Port ∷ WordStrobes ∷ Last ∷ Word ∷ [])
    ∷ (codes "B", Port ∷ Id ∷ WriteResponse ∷ [])
    ∷ (codes "WK", Port ∷ State ∷ [])
    ∷ snoop_fields

-- and first those of the read channels: all of version 1
abbrev pub records : List (List ℕ × List Field)
records =
    (codes "AR", Port ∷ Id ∷ Address ∷ Snoop ∷ Domain ∷ Barrier ∷ Lock ∷ [])
    ∷ (codes "R", Port ∷ Id ∷ ReadResponse ∷ Last ∷ Word ∷ [])
    ∷ (codes "RK", Port ∷ State ∷ [])
    ∷ write_fields

-- MEM, which version 2 has besides
abbrev pub mem_record : List ℕ × List Field
mem_record = (codes "MEM", Address ∷ Line ∷ [])

-- the fields behind a word, where it is a record word of the version
abbrev pub fields_of : ℕ → List ℕ → Option (List Field)
fields_of version word =
    lookup (bytes_eq word) (if version == 1 then records else mem_record ∷ records)
