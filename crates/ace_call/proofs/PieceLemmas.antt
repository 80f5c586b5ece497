-- A text in pieces.
use Rattle.std.proofs.Common.{◌≡◌, ◌<◌, ◌≤◌, ◌++◌, ◌+◌, ℕ, List, [], ◌∷◌, Option, length, drop, get_or, sym, ap, ◌∙◌, append-nil}
use Rattle.std.proofs.lemmas.List.{append_assoc, drop_more}
use Rattle.std.specs.Borrow.{Bor}
use Rattle.std.specs.List.{flat_map}
use Rattle.std.specs.Io.KnownBytes.{Appends}
use Rattle.std.proofs.KnownBytes.{Appends-nil, Appends-trans}
use Rattle.ace_convert.specs.Output.{AppendsPart}

-- one more piece in front
pub next_piece : (text piece rest whole : List ℕ) → text ++ (piece ++ rest) ≡ whole → (text ++ piece) ++ rest ≡ whole
next_piece text piece rest whole e = append_assoc text piece rest ∙ e

-- behind a text that was given, a front of the next piece
pub part_behind : (a b c : Option (List ℕ)) (so_far piece rest whole : List ℕ) → Appends a b so_far → AppendsPart b c piece
    → so_far ++ (piece ++ rest) ≡ whole → AppendsPart a c whole
part_behind a b c so_far piece rest whole given (front, more, cut, part) e = (
  so_far ++ front,
  more ++ rest,
  sym e ∙ ap (λ p. so_far ++ (p ++ rest)) cut ∙ ap (λ t. so_far ++ t) (append_assoc front more rest)
      ∙ sym (append_assoc so_far front (more ++ rest)),
  Appends-trans a b c so_far front given part,
)

pub ruleset pieces = (next_piece, part_behind, Appends-nil, Appends-trans, append-nil)

-- what is left of the pieces, the first of it apart
pub at_piece : (pieces : List (Bor (List ℕ))) (i : ℕ) (d : Bor (List ℕ)) → i < length pieces
    → flat_map (λ piece. piece.now) (drop i pieces) ≡ (get_or pieces i d).now ++ flat_map (λ piece. piece.now) (drop (i + 1) pieces)
at_piece pieces i d within = ap (flat_map (λ piece. piece.now)) (drop_more pieces i d within)

-- The pieces before this one were given.
abbrev pub HasGiven : Option (List ℕ) → Option (List ℕ) → List (Bor (List ℕ)) → ℕ → Type 0
HasGiven a b pieces i = (so_far : List ℕ) × Appends a b so_far
    × (so_far ++ flat_map (λ piece. piece.now) (drop i pieces) ≡ flat_map (λ piece. piece.now) pieces)

pub gives_part : (a b c : Option (List ℕ)) (pieces : List (Bor (List ℕ))) (i : ℕ) (d : Bor (List ℕ)) → i < length pieces
    → HasGiven a b pieces i → AppendsPart b c (get_or pieces i d).now → AppendsPart a c (flat_map (λ piece. piece.now) pieces)
gives_part a b c pieces i d within (so_far, given, e) part =
    part_behind a b c so_far (get_or pieces i d).now (flat_map (λ piece. piece.now) (drop (i + 1) pieces)) _ given part
    (sym (ap (λ t. so_far ++ t) (at_piece pieces i d within)) ∙ e)

pub gives_on : (a b c : Option (List ℕ)) (pieces : List (Bor (List ℕ))) (i : ℕ) (d : Bor (List ℕ)) → i < length pieces
    → HasGiven a b pieces i → Appends b c (get_or pieces i d).now → HasGiven a c pieces (i + 1)
gives_on a b c pieces i d within (so_far, given, e) piece = (
  so_far ++ (get_or pieces i d).now,
  Appends-trans a b c so_far _ given piece,
  next_piece so_far (get_or pieces i d).now (flat_map (λ piece. piece.now) (drop (i + 1) pieces)) _
      (sym (ap (λ t. so_far ++ t) (at_piece pieces i d within)) ∙ e),
)

pub ruleset giving = (gives_part, gives_on, Appends-nil, append-nil)
