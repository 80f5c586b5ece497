-- Where the least reason of a line is one of a field, some field has it.
use Rattle.std.proofs.Common.{◌≡◌, ◌+◌, ◌⊎◌, ℕ, Bool, true, false, List, [], ◌∷◌, Option, Some, None, nat_le, length, map, refl, sym, subst, inl, inr}
use Rattle.std.proofs.lemmas.Bool.{cases_Bool}
use Rattle.std.specs.Option.{option_map}
use Rattle.ace_grammar.specs.Reasons.{field_reason, fields_reason, least, line_reason, number_of_reason, record_reason}
use Rattle.ace_grammar.specs.Shapes.{shapes_of}
use Rattle.ace_grammar.specs.declared.reason.Reason.{Reason}
use Rattle.ace_grammar.specs.declared.reason.Reason.TheVariants.{F1, F2, F3, F4, F5, F6, F7}
use Rattle.ace_grammar.specs.declared.shapes.Shape.{Shape}
use Rattle.ace_malformed.proofs.Shapes.{fields_shaped}
use Rattle.ace_malformed.specs.Fields.{fields_of, shape_of}
use Rattle.ace_malformed.specs.Wrong.{Found, IsOfField, first_wrong, is_reason, words_of, wrong_among, wrong_behind, wrong_in}
use Rattle.ace_malformed.specs.declared.field.Field.{Field}

-- no other reason is one of a field
no_record : (reason : Reason) → IsOfField reason → Some F2 ≡ Some reason → ⊥
no_record F1 is e = absurd is
no_record F2 is e = absurd is
no_record F3 is e = absurd is
no_record F4 is e = absurd cc
no_record F5 is e = absurd cc
no_record F6 is e = absurd cc
no_record F7 is e = absurd is

no_count : (reason : Reason) → IsOfField reason → Some F3 ≡ Some reason → ⊥
no_count F1 is e = absurd is
no_count F2 is e = absurd is
no_count F3 is e = absurd is
no_count F4 is e = absurd cc
no_count F5 is e = absurd cc
no_count F6 is e = absurd cc
no_count F7 is e = absurd is

is_own : (reason : Reason) → is_reason reason (Some reason) ≡ true
is_own F1 = refl
is_own F2 = refl
is_own F3 = refl
is_own F4 = refl
is_own F5 = refl
is_own F6 = refl
is_own F7 = refl

not_both : (test : Bool) → test ≡ true → test ≡ false → ⊥
not_both true is isn't = absurd cc
not_both false is isn't = absurd cc

-- the lesser of two reasons is one of them
least_of : (one other : Option Reason) (reason : Reason) → least one other ≡ Some reason → (one ≡ Some reason) ⊎ (other ≡ Some reason)
least_of None other reason e = inr e
least_of (Some a) None reason e = inl e
least_of (Some a) (Some b) reason e =
    elim (cases_Bool (nat_le (number_of_reason a) (number_of_reason b))) [
      | inl t ↦ inl (rw t at e)
      | inr f ↦ inr (rw f at e)
    ]

-- some field behind a record word has it
field_found : (version column : ℕ) (reason : Reason) (fields : List Field) (texts : List (List ℕ)) → IsOfField reason
    → fields_reason version (map shape_of fields) texts ≡ Some reason → (found : Found) × (first_wrong version reason column fields texts ≡ Some found)
unfolding fields_reason first_wrong
field_found version column reason [] [] is e = absurd cc
field_found version column reason [] (text ∷ texts) is e = absurd (no_count reason is e)
field_found version column reason (field ∷ fields) [] is e = absurd (no_count reason is e)
field_found version column reason (field ∷ fields) (text ∷ texts) is e =
    elim (cases_Bool (is_reason reason (field_reason version (shape_of field) text))) [
      | inl t ↦ (record { column = column; field = field; text = text }, rw t refl)
      | inr f ↦
          elim (least_of (field_reason version (shape_of field) text) (fields_reason version (map shape_of fields) texts) reason e) [
            | inl here ↦ absurd (not_both (is_reason reason (field_reason version (shape_of field) text)) (rw here (is_own reason)) f)
            | inr there ↦
                let rest = field_found version (column + length text + 1) reason fields texts is there in
                (rest.0, rw f rest.1)
          ]
    ]

behind_found : (version column : ℕ) (reason : Reason) (fields : Option (List Field)) (shapes : Option (List Shape)) (texts : List (List ℕ))
    → option_map (map shape_of) fields ≡ shapes → IsOfField reason → record_reason version shapes texts ≡ Some reason
    → (found : Found) × (wrong_behind version reason column fields texts ≡ Some found)
behind_found version column reason None shapes texts same is e =
    absurd (no_record reason is (subst (λ (s : Option (List Shape)). record_reason version s texts ≡ Some reason) (sym same) e))
behind_found version column reason (Some fields) shapes texts same is e =
    field_found version column reason fields texts is (subst (λ (s : Option (List Shape)). record_reason version s texts ≡ Some reason) (sym same) e)

among_found : (version : ℕ) (words : List (List ℕ)) (reason : Reason) → IsOfField reason → line_reason version words ≡ Some reason
    → (found : Found) × (wrong_among version reason words ≡ Some found)
among_found version [] reason is e = absurd (no_record reason is e)
among_found version (word ∷ texts) reason is e =
    behind_found version (length word + 2) reason (fields_of version word) (shapes_of version word) texts (fields_shaped version word) is e

pub wrong_found : (version : ℕ) (line : List ℕ) (reason : Reason) → IsOfField reason → line_reason version (words_of line) ≡ Some reason
    → (found : Found) × (wrong_in version reason line ≡ Some found)
wrong_found version line reason is e = among_found version (words_of line) reason is e
