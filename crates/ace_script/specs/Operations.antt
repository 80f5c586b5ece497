-- The operations of a script: each has a word and its fields.
use Rattle.std.specs.Prelude.{ℕ, if◌then◌else◌, List, [], ◌∷◌, codes, Option, Some, None, Result, Ok, Err}
use Rattle.std.specs.Str.{bytes_eq}
use Rattle.std.specs.Map.{lookup}
use Rattle.ace_event.specs.declared.header.Header.{Header}
use Rattle.ace_model.specs.declared.plans.Op.{Op}
use Rattle.ace_model.specs.declared.plans.Op.TheVariants.{Ld, Ldx, St, Stx, Fill, Pf, Wb, Wc, Ev, We, Ro, Cs, Ci, Mi, Rn, Wu, Wlu, Wn, Mb, Sb, Dvm, Sync, Dvm2}
use Rattle.ace_model.specs.declared.plans.PlanOp.{PlanOp}
use Rattle.ace_model.specs.Plans.{is_allowed}
use Rattle.ace_script.specs.declared.reason.Reason.{Reason}
use Rattle.ace_script.specs.declared.reason.Reason.TheVariants.{P2, P8}
use Rattle.ace_script.specs.Fields.{both, made, port_of, address_of, place_of, word_of, strobe_of, line_of, fetch_of, lone_word_of, sync_word_of, first_word_of, second_word_of, no_field, one_field, two_fields, three_fields}

-- what the fields behind a word are read as
abbrev pub Row : Type 0
Row = List (List ℕ) → Result Op Reason

-- the operation words, each with the fields behind it: those that name no line
abbrev pub order_rows : List (List ℕ × Row)
order_rows =
    (codes "mb", λ fields. made (λ _. Mb) (no_field fields))
    ∷ (codes "sb", λ fields. made (λ _. Sb) (no_field fields))
    ∷ (codes "dvm", λ fields. made (λ word. Dvm word) (one_field lone_word_of fields))
    ∷ (codes "sync", λ fields. made (λ word. Sync word) (one_field sync_word_of fields))
    ∷ (
      codes "dvm2",
      λ fields. made (λ x. Dvm2 x.0 x.1)
          (two_fields first_word_of second_word_of fields),
    )
    ∷ []

-- with those that bring no line into a cache
abbrev pub uncached_rows : List (List ℕ × Row)
uncached_rows =
    (codes "ro", λ fields. made (λ a. Ro a) (one_field address_of fields))
    ∷ (codes "cs", λ fields. made (λ a. Cs a) (one_field address_of fields))
    ∷ (codes "ci", λ fields. made (λ a. Ci a) (one_field address_of fields))
    ∷ (codes "mi", λ fields. made (λ a. Mi a) (one_field address_of fields))
    ∷ (codes "rn", λ fields. made (λ a. Rn a) (one_field address_of fields))
    ∷ (
      codes "wu",
      λ fields. made (λ x. Wu x.0 x.1.0 x.1.1)
          (three_fields address_of strobe_of line_of fields),
    )
    ∷ (codes "wlu", λ fields. made (λ x. Wlu x.0 x.1) (two_fields address_of line_of fields))
    ∷ (
      codes "wn",
      λ fields. made (λ x. Wn x.0 x.1.0 x.1.1)
          (three_fields address_of strobe_of line_of fields),
    )
    ∷ order_rows

-- with those of a cache: all of them
abbrev pub rows : List (List ℕ × Row)
rows =
    (codes "ld", λ fields. made (λ x. Ld x.0 x.1) (two_fields address_of place_of fields))
    ∷ (codes "ldx", λ fields. made (λ x. Ldx x.0 x.1) (two_fields address_of place_of fields))
    ∷ (
      codes "st",
      λ fields. made (λ x. St x.0 x.1.0 x.1.1)
          (three_fields address_of place_of word_of fields),
    )
    ∷ (
      codes "stx",
      λ fields. made (λ x. Stx x.0 x.1.0 x.1.1)
          (three_fields address_of place_of word_of fields),
    )
    ∷ (codes "fill", λ fields. made (λ x. Fill x.0 x.1) (two_fields address_of line_of fields))
    ∷ (codes "pf", λ fields. made (λ x. Pf x.0 x.1) (two_fields address_of fetch_of fields))
    ∷ (codes "wb", λ fields. made (λ a. Wb a) (one_field address_of fields))
    ∷ (codes "wc", λ fields. made (λ a. Wc a) (one_field address_of fields))
    ∷ (codes "ev", λ fields. made (λ a. Ev a) (one_field address_of fields))
    ∷ (codes "we", λ fields. made (λ a. We a) (one_field address_of fields))
    ∷ uncached_rows

abbrev pub by_row : Option Row → Row
by_row None fields = Err P2
by_row (Some row) fields = row fields

-- the operation of this word with these fields, or the least reason why it is none
unfoldable pub op_of : List ℕ → List (List ℕ) → Result Op Reason
op_of word fields = by_row (lookup (bytes_eq word) rows) fields

-- the operation, where it is allowed after these
abbrev pub if_allowed : Header → List PlanOp → Result (ℕ × Op) Reason → Result PlanOp Reason
if_allowed h before (Err why) = Err why
if_allowed h before (Ok x) =
    if is_allowed h before (record { port = x.0; op = x.1 })
    then Ok (record { port = x.0; op = x.1 }) else Err P8

-- The operation of a line with these fields, the first of which is its port, behind these
-- operations of a script with this header; or the least reason that applies.
abbrev pub operation_of : Header → List PlanOp → List (List ℕ) → Result PlanOp Reason
operation_of h before (port ∷ word ∷ fields) =
    if_allowed h before (both (port_of h port) (op_of word fields))
operation_of h before _ = Err P2
