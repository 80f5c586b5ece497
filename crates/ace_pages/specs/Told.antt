-- What words that name pages are told.
use Rattle.std.specs.Prelude.{ℕ, ◌++◌, List, [], ◌∷◌, Option, Some, option_and_then}
use Rattle.ace_pages.specs.Named.{page_named}
use Rattle.ace_pages.specs.Pages.{all_titles, page_text}

-- the text with the pages that the words name behind it; none where a word names no page
unfoldable pub told_onto : List ℕ → List (List ℕ) → Option (List ℕ)
told_onto text [] = Some text
told_onto text (word ∷ words) =
    option_and_then (λ page. told_onto (text ++ page_text page) words) (page_named word)

-- the pages that the words name, in their order; without a word the lines of all rules
abbrev pub pages_told : List (List ℕ) → Option (List ℕ)
pages_told [] = Some all_titles
pages_told (word ∷ words) = told_onto [] (word ∷ words)
