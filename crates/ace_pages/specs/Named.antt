-- Pages by the words that name them.
use Rattle.std.specs.Prelude.{ℕ, ◌&&◌, if◌then◌else◌, ◌+◌, zero, suc, List, [], ◌∷◌, Option, Some, None, bytes_eq, option_map}
use Rattle.ace_clauses.specs.declared.letters.Letter.{Letter}
use Rattle.ace_model.specs.Trace.{newer}
use Rattle.ace_pages.specs.Pages.{is_clause, letters, page_name}
use Rattle.ace_pages.specs.declared.page.Page.{Page}

-- the clause of the rule that has the word for its name, among those with these letters
unfoldable pub letter_among : List ℕ → ℕ → List Letter → Option Letter
letter_among word rule [] = None
letter_among word rule (letter ∷ others) =
    if is_clause rule letter && bytes_eq word (page_name rule (Some letter)) then Some letter
    else letter_among word rule others

-- the page of the rule, or of a clause of it, that has the word for its name
unfoldable pub page_of_rule : List ℕ → ℕ → Option Page
page_of_rule word rule =
    if bytes_eq word (page_name rule None) then Some (record { rule = rule; letter = None })
    else option_map (λ letter. record { rule = rule; letter = Some letter })
    (letter_among word rule letters)

-- the same among the pages of the rules from one number on, so many of them
unfoldable pub page_from : List ℕ → ℕ → ℕ → Option Page
page_from word rule zero = None
page_from word rule (suc count) = newer (page_of_rule word rule) (page_from word (rule + 1) count)

-- the page that has the word for its name, as K12 or K12d, if there is one
unfoldable pub page_named : List ℕ → Option Page
page_named word = page_from word 1 40
