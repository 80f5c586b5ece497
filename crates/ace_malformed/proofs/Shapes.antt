-- The fields of each record have the shapes that the grammar gives them.
use Rattle.std.proofs.Common.{◌≡◌, ℕ, List, ◌∷◌, eqb, map, sym, inl, inr}
use Rattle.std.proofs.lemmas.Bool.{cases_Bool}
use Rattle.std.proofs.lemmas.Map.Made.{lookup-map_values}
use Rattle.std.specs.Option.{option_map}
use Rattle.std.specs.Str.{bytes_eq}
use Rattle.ace_grammar.specs.Shapes.{shapes_of}
use Rattle.ace_malformed.specs.Fields.{fields_of, mem_record, records, shape_of}

pub fields_shaped : (version : ℕ) (word : List ℕ) → option_map (map shape_of) (fields_of version word) ≡ shapes_of version word
fields_shaped version word =
    elim (cases_Bool (eqb version 1)) [
      | inl one ↦ rw one (sym (lookup-map_values (map shape_of) (bytes_eq word) records))
      | inr other ↦ rw other (sym (lookup-map_values (map shape_of) (bytes_eq word) (mem_record ∷ records)))
    ]
