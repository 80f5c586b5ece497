-- One line, and the others.
use Rattle.std.proofs.Common.{◌≡◌, ◌+◌, ◌<◌, ◌++◌, ℕ, List, [], ◌∷◌, filter, get_or, if◌then◌else◌, length, take, ap, ◌∙◌}
use Rattle.std.specs.Borrow.{Bor}
use Rattle.std.proofs.lemmas.List.{map-append, take_more}
use Rattle.std.proofs.lemmas.List.Elements.{filter-append}
use Rattle.ace_paths.specs.Lists.{is_some_text, texts_of}

pub line_step : (lines : List (Bor (List ℕ))) (i : ℕ) (d : Bor (List ℕ)) → i < length lines
    → filter is_some_text (texts_of (take (i + 1) lines))
    ≡ filter is_some_text (texts_of (take i lines))
    ++ (if is_some_text (get_or lines i d).now then (get_or lines i d).now ∷ [] else [])
line_step lines i d within =
    ap (λ it. filter is_some_text (texts_of it)) (take_more lines i d within)
    ∙ ap (filter is_some_text) (map-append (λ word. word.now) (take i lines) (get_or lines i d ∷ []))
    ∙ filter-append is_some_text (texts_of (take i lines)) ((get_or lines i d).now ∷ [])

pub path_push : (paths : List (Bor (List ℕ))) (path : Bor (List ℕ)) → texts_of (paths ++ path ∷ []) ≡ texts_of paths ++ path.now ∷ []
path_push paths path = map-append (λ word. word.now) paths (path ∷ [])

pub ruleset listing = (line_step, path_push)
