-- Words that name no page: the names of pages begin with K.
use Rattle.std.proofs.Common.{◌≡◌, ℕ, ◌+◌, zero, suc, false, List, [], ◌∷◌, Option, Some, None, bytes_eq, refl, inl, inr}
use Rattle.std.proofs.lemmas.Bool.{cases_Bool}
use Rattle.ace_clauses.specs.declared.letters.Letter.{Letter}
use Rattle.ace_pages.specs.Named.{letter_among, page_from, page_named, page_of_rule}
use Rattle.ace_pages.specs.Pages.{is_clause, letters, page_name}
use Rattle.ace_pages.specs.Told.{pages_told, told_onto}

-- a word that begins with a hyphen is none
no_name : (rest : List ℕ) (rule : ℕ) (letter : Option Letter) → bytes_eq (45 ∷ rest) (page_name rule letter) ≡ false
unfolding page_name
no_name rest rule None = refl
no_name rest rule (Some letter) = refl

no_letter : (rest : List ℕ) (rule : ℕ) (letters : List Letter) → letter_among (45 ∷ rest) rule letters ≡ None
unfolding letter_among
no_letter rest rule [] = refl
no_letter rest rule (letter ∷ others) =
    elim (cases_Bool (is_clause rule letter)) [
      | inl t ↦ rw (t, no_name rest rule (Some letter)) (no_letter rest rule others)
      | inr f ↦ rw f (no_letter rest rule others)
    ]

no_page_of : (rest : List ℕ) (rule : ℕ) → page_of_rule (45 ∷ rest) rule ≡ None
unfolding page_of_rule
no_page_of rest rule = rw (no_name rest rule None, no_letter rest rule letters) refl

no_page_from : (rest : List ℕ) (rule count : ℕ) → page_from (45 ∷ rest) rule count ≡ None
unfolding page_from
no_page_from rest rule zero = refl
no_page_from rest rule (suc count) = rw (no_page_of rest rule, no_page_from rest (rule + 1) count) refl

no_page : (rest : List ℕ) → page_named (45 ∷ rest) ≡ None
unfolding page_named
no_page rest = no_page_from rest 1 40

-- so none is told of it
pub hyphen_names_no_page : (rest : List ℕ) → pages_told ((45 ∷ rest) ∷ []) ≡ None
unfolding told_onto
hyphen_names_no_page rest = rw (no_page rest) refl
