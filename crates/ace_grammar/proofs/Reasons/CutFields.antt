-- The fields of a line, cut at each space and put together again.
use Rattle.std.proofs.Common.{◌≡◌, ◌≢◌, ℕ, ◌<◌, Bool, false, eqb, List, [], ◌∷◌, ◌++◌, length, take, drop, get_or, ◌+◌, ◌-◌, Some, refl, sym, ap, subst, ◌∙◌, arith, inl, inr}
use Rattle.std.specs.List.{AllByRecursion, All, slice_split, join_with_byte, onto_first}
use Rattle.std.proofs.lemmas.Bool.{cases_Bool, eqb-false, ne_eqb}
use Rattle.std.proofs.lemmas.List.Elements.{All-from_recursion, recursion_from_All}
use Rattle.std.proofs.lemmas.List.{drop_more, take-append-drop, take_all, length-drop}
use Rattle.std.proofs.lemmas.List.Splits.{slice_split_at, slice_split_none, slice_split-cons_yes, slice_split-cons_no, join_with_byte-slice_split}
use Rattle.ace_grammar.specs.declared.reason.Reason.TheVariants.{F3}
use Rattle.ace_grammar.specs.Reasons.{AreFields, fields_reason}
use Rattle.ace_grammar.proofs.General.Visible.{IsPlain, all-weaker}

abbrev is_space : ℕ → Bool
is_space byte = eqb byte 32

abbrev pub cut : List ℕ → List (List ℕ)
cut line = slice_split (λ byte. eqb byte 32) line

plain_all : (field : List ℕ) → IsPlain field → All (λ byte. eqb byte 32 ≡ false) field
plain_all field h =
    All-from_recursion (λ byte. eqb byte 32 ≡ false) field (all-weaker (λ byte. byte ≢ 32) (λ byte. eqb byte 32 ≡ false) (λ byte h. ne_eqb byte 32 h) field h)

-- fields that were joined are cut again
cut_joined : (l : List (List ℕ)) → l ≢ [] → AllByRecursion IsPlain l → cut (join_with_byte 32 l) ≡ l
cut_joined [] some plain = absurd (some refl)
cut_joined (x ∷ []) some plain = slice_split_none is_space x (plain_all x plain.0)
cut_joined (x ∷ y ∷ l) some plain =
    slice_split_at is_space x 32 (join_with_byte 32 (y ∷ l)) (plain_all x plain.0) refl
    ∙ ap (λ (r : List (List ℕ)). x ∷ r) (cut_joined (y ∷ l) (λ e. absurd cc) plain.1)

not_empty_is_wrong : (version : ℕ) (l : List (List ℕ)) → l ≢ [] → fields_reason version [] l ≡ Some F3
unfolding fields_reason
not_empty_is_wrong version [] some = absurd (some refl)
not_empty_is_wrong version (x ∷ l) some = refl

onto_plain : (x : ℕ) (l : List (List ℕ)) → x ≢ 32 → AllByRecursion IsPlain l → AllByRecursion IsPlain (onto_first x l)
onto_plain x [] h plain = ((h, tt), tt)
onto_plain x (y ∷ l) h plain = ((h, plain.0), plain.1)

onto_some : (x : ℕ) (l : List (List ℕ)) → onto_first x l ≢ []
onto_some x [] e = absurd cc
onto_some x (y ∷ l) e = absurd cc

-- what is cut has a field, and no field has a space
cut_plain : (line : List ℕ) → (cut line ≢ []) × AllByRecursion IsPlain (cut line)
cut_plain [] = (λ e. absurd cc, (tt, tt))
cut_plain (x ∷ line) =
    elim (cases_Bool (eqb x 32)) [
      | inl p ↦
          let is = slice_split-cons_yes is_space x line p in
          (λ e. absurd (let h : [] ∷ cut line ≡ [] = sym is ∙ e in cc), subst (AllByRecursion IsPlain) (sym is) (tt, (cut_plain line).1))
      | inr q ↦
          let is = slice_split-cons_no is_space x line q in
          (λ e. onto_some x (cut line) (sym is ∙ e), subst (AllByRecursion IsPlain) (sym is) (onto_plain x (cut line) (eqb-false x 32 q) (cut_plain line).1))
    ]

pub cut_are_fields : (line : List ℕ) → AreFields line (cut line)
cut_are_fields line = record {
  some_field = (cut_plain line).0;
  joined = sym (join_with_byte-slice_split 32 line);
  no_space = (cut_plain line).1;
}

-- the fields of a line are those that are cut from it
pub are_cut : (line : List ℕ) (l : List (List ℕ)) → AreFields line l → cut line ≡ l
are_cut line l h = ap cut h.joined ∙ cut_joined l h.some_field h.no_space

-- more fields than shapes
pub too_many : (version : ℕ) (bytes : List ℕ) → fields_reason version [] (cut bytes) ≡ Some F3
too_many version bytes = not_empty_is_wrong version (cut bytes) (cut_plain bytes).0

-- ---- the first field

plain_from_all : (field : List ℕ) → All (λ byte. byte ≢ 32) field → IsPlain field
plain_from_all field h = recursion_from_All (λ byte. byte ≢ 32) field h

pub cut_none : (bytes : List ℕ) → All (λ byte. byte ≢ 32) bytes → cut bytes ≡ bytes ∷ []
cut_none bytes h = slice_split_none is_space bytes (plain_all bytes (plain_from_all bytes h))

pub cut_first : (bytes : List ℕ) (at count : ℕ) → at < length bytes → All (λ byte. byte ≢ 32) (take at bytes) → get_or bytes at 0 ≡ 32 → length bytes - (at + 1) ≡ count
    → cut bytes ≡ take at bytes ∷ cut (take count (drop (at + 1) bytes))
cut_first bytes at count lt plain is size =
    let rest = drop (at + 1) bytes in
    let whole : take at bytes ++ 32 ∷ rest ≡ bytes =
    ap (λ b. take at bytes ++ b ∷ rest) (sym is) ∙ ap (λ (l : List ℕ). take at bytes ++ l) (sym (drop_more bytes at 0 lt)) ∙ take-append-drop at bytes in
    let all : take count rest ≡ rest = take_all count rest (omega (arith, length-drop (at + 1) bytes, size)) in
    ap cut (sym whole) ∙ slice_split_at is_space (take at bytes) 32 rest (plain_all (take at bytes) (plain_from_all (take at bytes) plain)) refl
    ∙ ap (λ (l : List ℕ). take at bytes ∷ cut l) (sym all)
