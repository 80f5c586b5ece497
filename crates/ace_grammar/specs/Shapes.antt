-- The records of a trace: each has a word and the shapes of its fields. The shape of a port is the
-- version's.
use Rattle.std.specs.Prelude.{ℕ, ◌==◌, if◌then◌else◌, List, [], ◌∷◌, codes, Option}
use Rattle.std.specs.Str.{bytes_eq}
use Rattle.std.specs.Map.{lookup}
use Rattle.ace_grammar.specs.declared.shapes.Shape.{Shape}
use Rattle.ace_grammar.specs.declared.shapes.Shape.TheVariants.{Port, Digits, AtMost, SnoopResponse, ChannelWord, StateWord, OutcomeWord}

-- each record word of version 1 with the shapes of the fields behind it: those of what a port does
-- on its own
abbrev pub own_records : List (List ℕ × List Shape)
own_records =
    (codes "S", Port ∷ Digits 8 ∷ StateWord ∷ [])
    ∷ (codes "L", Port ∷ Digits 8 ∷ AtMost 3 ∷ AtMost 1 ∷ Digits 32 ∷ [])
    ∷ (codes "D", Port ∷ Digits 8 ∷ Digits 16 ∷ AtMost 1 ∷ Digits 128 ∷ [])
    ∷ (codes "OP", Port ∷ Digits 4 ∷ OutcomeWord ∷ [])
    ∷ []

-- before them those of the snoop channels and of the interconnect
abbrev pub snoop_records : List (List ℕ × List Shape)
snoop_records =
    (codes "AC", Port ∷ Digits 8 ∷ Digits 1 ∷ [])
    ∷ (codes "CR", Port ∷ SnoopResponse ∷ StateWord ∷ [])
    ∷ (codes "CD", Port ∷ AtMost 1 ∷ Digits 32 ∷ [])
    ∷ (codes "G", Port ∷ ChannelWord ∷ Digits 1 ∷ [])
    ∷ (codes "M", Port ∷ ChannelWord ∷ Digits 1 ∷ Digits 128 ∷ [])
    ∷ own_records

-- before them those of the write channels
abbrev pub write_records : List (List ℕ × List Shape)
write_records =
    (codes "AW", Port ∷ Digits 1 ∷ Digits 8 ∷ AtMost 7 ∷ AtMost 3 ∷ AtMost 3 ∷ [])
    ∷ (codes "W", Port ∷ Digits 4 ∷ AtMost 1 ∷ Digits 32 ∷ [])
    ∷ (codes "B", Port ∷ Digits 1 ∷ AtMost 3 ∷ [])
    ∷ (codes "WK", Port ∷ StateWord ∷ [])
    ∷ snoop_records

-- and first those of the read channels: all of them
abbrev pub records : List (List ℕ × List Shape)
records =
    (codes "AR", Port ∷ Digits 1 ∷ Digits 8 ∷ Digits 1 ∷ AtMost 3 ∷ AtMost 3 ∷ AtMost 1 ∷ [])
    ∷ (codes "R", Port ∷ Digits 1 ∷ Digits 1 ∷ AtMost 1 ∷ Digits 32 ∷ [])
    ∷ (codes "RK", Port ∷ StateWord ∷ [])
    ∷ write_records

-- MEM, which version 2 has besides
abbrev pub mem_record : List ℕ × List Shape
mem_record = (codes "MEM", Digits 8 ∷ Digits 128 ∷ [])

-- the shapes of the fields behind a word, where it is a record word of the version
abbrev pub shapes_of : ℕ → List ℕ → Option (List Shape)
shapes_of version word =
    lookup (bytes_eq word) (if version == 1 then records else mem_record ∷ records)
