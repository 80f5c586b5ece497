-- What is cut from some bytes.
use Rattle.std.proofs.Common.{◌≡◌, ◌≢◌, ℕ, ◌<◌, ◌≤◌, eqb, false, List, [], ◌∷◌, ◌++◌, length, Option, Some, None, refl, sym, ap, subst, ◌∙◌, arith}
use Rattle.std.specs.Prelude.{IfSome}
use Rattle.std.specs.Option.{option_map}
use Rattle.std.specs.List.{All, join_with_byte}
use Rattle.std.proofs.lemmas.Bool.{ne_eqb}
use Rattle.std.proofs.lemmas.List.{length-append}
use Rattle.std.proofs.lemmas.List.Elements.{All-from_recursion}
use Rattle.std.proofs.lemmas.List.Splits.{slice_split_at, slice_split_none, length-slice_split, join_with_byte-slice_split}
use Rattle.ace_grammar.specs.Parts.{parts}
use Rattle.ace_grammar.proofs.General.Visible.{IsPlain, all-weaker}
use Rattle.ace_side.specs.Parts.{cut}

-- there is a first piece
pub some_piece : (bytes : List ℕ) → 1 ≤ length (cut bytes)
some_piece bytes = omega (arith, length-slice_split (λ byte. eqb byte 32) bytes)

-- pieces behind a first one
joined_behind : (first : List ℕ) (l : List (List ℕ)) → 1 ≤ length l → join_with_byte 32 (first ∷ l) ≡ first ++ 32 ∷ join_with_byte 32 l
joined_behind first [] h = absurd (omega (arith, h))
joined_behind first (x ∷ l) h = refl

pub whole_behind : (bytes first rest : List ℕ) → cut bytes ≡ first ∷ cut rest → bytes ≡ first ++ 32 ∷ rest
whole_behind bytes first rest e =
    sym (join_with_byte-slice_split 32 bytes) ∙ ap (join_with_byte 32) e ∙ joined_behind first (cut rest) (some_piece rest)
    ∙ ap (λ (l : List ℕ). first ++ 32 ∷ l) (join_with_byte-slice_split 32 rest)

pub first_length : {B : Type 0} (now : B → List ℕ) (bytes first : List ℕ) (rest : Option B) → cut bytes ≡ first ∷ parts (option_map now rest) → length first ≤ length bytes
first_length now bytes first None e =
    let same : bytes ≡ first = sym (join_with_byte-slice_split 32 bytes) ∙ ap (join_with_byte 32) e in
    omega (arith, ap length same)
first_length now bytes first (Some r) e = omega (arith, ap length (whole_behind bytes first (now r) e), length-append first (32 ∷ now r))

pub rest_length : {B : Type 0} (now : B → List ℕ) (bytes first : List ℕ) (rest : Option B) → cut bytes ≡ first ∷ parts (option_map now rest) → IfSome rest (λ r. length (now r) < length bytes)
rest_length now bytes first None e = tt
rest_length now bytes first (Some r) e = omega (arith, ap length (whole_behind bytes first (now r) e), length-append first (32 ∷ now r))

-- bytes without a space are one piece, also before others
plain_all : (field : List ℕ) → IsPlain field → All (λ byte. eqb byte 32 ≡ false) field
plain_all field h =
    All-from_recursion (λ byte. eqb byte 32 ≡ false) field (all-weaker (λ byte. byte ≢ 32) (λ byte. eqb byte 32 ≡ false) (λ byte h. ne_eqb byte 32 h) field h)

pub cut_plain : (field : List ℕ) → IsPlain field → cut field ≡ field ∷ []
cut_plain field h = slice_split_none (λ byte. eqb byte 32) field (plain_all field h)

pub cut_behind : (field rest : List ℕ) → IsPlain field → cut (field ++ 32 ∷ rest) ≡ field ∷ cut rest
cut_behind field rest h = slice_split_at (λ byte. eqb byte 32) field 32 rest (plain_all field h) refl

-- the same pieces, the same bytes
pub same_pieces : (one other : List ℕ) → cut one ≡ cut other → one ≡ other
same_pieces one other e = sym (join_with_byte-slice_split 32 one) ∙ ap (join_with_byte 32) e ∙ join_with_byte-slice_split 32 other

-- what is left has two pieces where something is left behind its first
pub two_left : {B : Type 0} (now : B → List ℕ) (rest more : Option B) (bytes text : B) (first : List ℕ) → rest ≡ Some bytes → more ≡ Some text
    → cut (now bytes) ≡ first ∷ parts (option_map now more) → 2 ≤ length (parts (option_map now rest))
two_left now rest more bytes text first e f is =
    subst (λ o. 2 ≤ length (parts (option_map now o))) (sym e)
    (let same : cut (now bytes) ≡ first ∷ cut (now text) = is ∙ ap (λ o. first ∷ parts (option_map now o)) f in
    omega (arith, ap length same, some_piece (now text)))
