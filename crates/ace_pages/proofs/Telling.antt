-- One word more, and the others.
use Rattle.std.proofs.Common.{◌≡◌, ℕ, ◌+◌, ◌<◌, ◌≤◌, ◌++◌, List, String, Some, None, drop, get_or, length, map, string_bytes, refl, ap, ◌∙◌}
use Rattle.std.specs.Prelude.{option_and_then}
use Rattle.std.specs.declared.alloc.Global.{Global}
use Rattle.std.proofs.lemmas.List.{drop_all, drop_more}
use Rattle.ace_pages.specs.Named.{page_named}
use Rattle.ace_pages.specs.Pages.{page_text}
use Rattle.ace_pages.specs.Told.{told_onto}
use Rattle.ace_pages.specs.declared.page.Page.{Page}

-- the word at this place, and those behind it
pub told_step : (text : List ℕ) (words : List (String Global)) (i : ℕ) (d : String Global) → i < length words
    → told_onto text (map string_bytes (drop i words))
    ≡ option_and_then (λ page. told_onto (text ++ page_text page) (map string_bytes (drop (i + 1) words)))
    (page_named (string_bytes (get_or words i d)))
unfolding told_onto
told_step text words i d within =
    ap (λ rest. told_onto text (map string_bytes rest)) (drop_more words i d within)

-- no word is left
pub told_end : (text : List ℕ) (words : List (String Global)) (i : ℕ) → length words ≤ i
    → told_onto text (map string_bytes (drop i words)) ≡ Some text
unfolding told_onto
told_end text words i past = rw (drop_all i words past) refl

-- it names no page
pub told_wrong : (text : List ℕ) (words : List (String Global)) (i : ℕ) (d : String Global) → i < length words
    → page_named (string_bytes (get_or words i d)) ≡ None → told_onto text (map string_bytes (drop i words)) ≡ None
told_wrong text words i d within wrong =
    told_step text words i d within
    ∙ ap (option_and_then (λ page. told_onto (text ++ page_text page) (map string_bytes (drop (i + 1) words)))) wrong

-- it names this page
pub told_page : (text : List ℕ) (words : List (String Global)) (i : ℕ) (d : String Global) (page : Page) → i < length words
    → page_named (string_bytes (get_or words i d)) ≡ Some page
    → told_onto text (map string_bytes (drop i words)) ≡ told_onto (text ++ page_text page) (map string_bytes (drop (i + 1) words))
told_page text words i d page within named =
    told_step text words i d within
    ∙ ap (option_and_then (λ page. told_onto (text ++ page_text page) (map string_bytes (drop (i + 1) words)))) named

pub ruleset told_steps = (told_wrong, told_page, told_end)
