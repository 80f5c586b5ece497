-- Lines that end with a text, which may hold spaces.
use Rattle.std.proofs.Common.{◌≡◌, ◌⊎◌, ℕ, ◌^◌, ◌<◌, ◌≤◌, true, leb, List, ◌∷◌, length, Err, refl, sym, ap, subst, ◌∙◌, arith, inl, inr}
use Rattle.std.specs.Prelude.{decimal}
use Rattle.std.proofs.lemmas.Bool.{cond-true, cond-false, le-leb, lt-leb}
use Rattle.ace_event.specs.Text.{hex_text}
use Rattle.ace_side.specs.declared.kind.LineKind.{LineKind}
use Rattle.ace_side.specs.declared.kind.LineKind.TheVariants as kind
use Rattle.ace_side.specs.declared.line.SideLine.{SideLine}
use Rattle.ace_side.specs.declared.line.SideLine.TheVariants.{Port, Note}
use Rattle.ace_side.specs.declared.reason.Reason.TheVariants.{S3, S4}
use Rattle.ace_side.specs.Grammar.{Fits, is_name, is_note}
use Rattle.ace_side.specs.Reasons.{has_count}
use Rattle.ace_side.specs.Parts.{cut, kind_of, fields_behind, IsReadBehind}
use Rattle.ace_side.proofs.Pieces.{some_piece, same_pieces}

-- fields of which the first is so, and the others are the pieces of a text that is so
pub record EndsInText (IsFirst IsText : List ℕ → Type 0) (fields : List (List ℕ)) : Type 0 where
  pub first : List ℕ
  pub text : List ℕ
  pub is_first : IsFirst first
  pub is_text : IsText text
  pub are : fields ≡ first ∷ cut text

-- each line of the kind ends so
abbrev pub EndInTexts : LineKind → (List ℕ → Type 0) → (List ℕ → Type 0) → Type 0
EndInTexts k IsFirst IsText = (line : SideLine) → Fits line → kind_of line ≡ k → EndsInText IsFirst IsText (fields_behind line)

abbrev pub IsPort : List ℕ → Type 0
IsPort field = (n : ℕ) × (n < 256) × (hex_text 2 n ≡ field)

abbrev pub IsNumber : List ℕ → Type 0
IsNumber field = (n : ℕ) × (n < 2 ^ 64) × (decimal n ≡ field)

pub ports_end : EndInTexts kind.Port IsPort (λ name. is_name name ≡ true)
ports_end (Port port name) h k = record { first = hex_text 2 port; text = name; is_first = (port, h.0, refl); is_text = h.1; are = refl }
ports_end _ h k = absurd cc

pub notes_end : EndInTexts kind.Note IsNumber (λ text. is_note text ≡ true)
notes_end (Note event text) h k = record { first = decimal event; text = text; is_first = (event, h.0, refl); is_text = h.1; are = refl }
notes_end _ h k = absurd cc

parted : (a x : List ℕ) (l m : List (List ℕ)) → a ∷ l ≡ x ∷ m → (a ≡ x) × (l ≡ m)
parted a x l m e = (cc, cc)

two_pieces : (fields : List (List ℕ)) (a text : List ℕ) → fields ≡ a ∷ cut text → 2 ≤ length fields
two_pieces fields a text e = omega (arith, ap length e, some_piece text)

-- a field is of another form
pub another_form : (k : LineKind) (IsFirst IsText : List ℕ → Type 0) (fields : List (List ℕ)) (a text : List ℕ) → ((n : ℕ) → has_count k n ≡ leb 2 n) → EndInTexts k IsFirst IsText
    → fields ≡ a ∷ cut text → (¬ IsFirst a) ⊎ (¬ IsText text) → IsReadBehind k fields (Err S4)
another_form k IsFirst IsText fields a text count ends e none = (
  sym (cond-true (has_count k (length fields)) S4 S3 (count (length fields) ∙ le-leb 2 (length fields) (two_pieces fields a text e))),
  λ line fits is same.
      let end = ends line fits is in
      let apart = parted end.first a (cut end.text) (cut text) (sym end.are ∙ same ∙ e) in
      elim none [
        | inl first ↦ first (subst IsFirst apart.0 end.is_first)
        | inr other ↦ other (subst IsText (same_pieces end.text text apart.1) end.is_text)
      ],
)

-- there are too few fields
pub too_few : (k : LineKind) (IsFirst IsText : List ℕ → Type 0) (fields : List (List ℕ)) → ((n : ℕ) → has_count k n ≡ leb 2 n) → EndInTexts k IsFirst IsText
    → length fields < 2 → IsReadBehind k fields (Err S3)
too_few k IsFirst IsText fields count ends few = (
  sym (cond-false (has_count k (length fields)) S4 S3 (count (length fields) ∙ lt-leb 2 (length fields) few)),
  λ line fits is same.
      let end = ends line fits is in
      omega (arith, few, ap length same, two_pieces (fields_behind line) end.first end.text end.are),
)
