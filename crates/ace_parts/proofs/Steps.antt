-- One text, and the others.
use Rattle.std.proofs.Common.{◌≡◌, ◌+◌, ◌<◌, ◌||◌, ℕ, List, bytes_eq, drop, get_or, length}
use Rattle.std.proofs.lemmas.List.{at_drop_more, length-map}
use Rattle.std.specs.Borrow.{Bor}
use Rattle.std.specs.List.{list_any}
use Rattle.ace_parts.specs.Merging.{texts_of}

pub any_step : (text : List ℕ) (texts : List (Bor (List ℕ))) (i : ℕ) (d : Bor (List ℕ)) → i < length texts
    → list_any (bytes_eq text) (texts_of (drop i texts)) ≡ (bytes_eq text (get_or texts i d).now || list_any (bytes_eq text) (texts_of (drop (i + 1) texts)))
any_step text texts i d within = at_drop_more (λ it. list_any (bytes_eq text) (texts_of it)) texts i d within

pub as_many : (texts : List (Bor (List ℕ))) → length (texts_of texts) ≡ length texts
as_many texts = length-map texts (λ text. text.now)
