-- What takes a field from the front of a line is exact: it takes each text of the field, and nothing else.
use Rattle.std.proofs.Common.{◌≡◌, ℕ, ◌+◌, ◌≤◌, List, [], ◌∷◌, ◌++◌, length, Option, Some, None, refl, sym, ap, subst, ◌∙◌, arith, eqb, inl, inr}
use Rattle.std.proofs.lemmas.Bool.{eqb-true}
use Rattle.std.specs.Option.{option_and_then, option_map}
use Rattle.std.proofs.lemmas.List.{append-nil, length-append}
use Rattle.ace_grammar.specs.Fields.{Taker, space_at, whole, ended, ◌▹◌}
use Rattle.ace_grammar.proofs.General.Options.{bind_some, map_some, some_is, none_isn't, chosen}

-- A field has a text for each value that it may have. None is longer than size.
pub record Takes {A : Type 0} (take_first : Taker A) (text : A → List ℕ) (IsIn : A → Type 0) (size : ℕ) : Type 0 where
  pub takes : (bytes rest : List ℕ) (value : A) → take_first bytes ≡ Some (value, rest) → IsIn value × (bytes ≡ text value ++ rest)
  pub again : (value : A) (rest : List ℕ) → IsIn value → take_first (text value ++ rest) ≡ Some (value, rest)
  pub short : (value : A) → IsIn value → length (text value) ≤ size

-- the same of what is read from all of the bytes
pub record ReadsAll {A : Type 0} (read : List ℕ → Option A) (text : A → List ℕ) (IsIn : A → Type 0) (size : ℕ) : Type 0 where
  pub takes : (bytes : List ℕ) (value : A) → read bytes ≡ Some value → IsIn value × (bytes ≡ text value)
  pub again : (value : A) → IsIn value → read (text value) ≡ Some value
  pub short : (value : A) → IsIn value → length (text value) ≤ size

space_takes : (bytes rest : List ℕ) → space_at bytes ≡ Some rest → bytes ≡ 32 ∷ rest
unfolding space_at
space_takes [] rest e = none_isn't rest _ e
space_takes (byte ∷ bytes) rest e =
    elim (chosen (eqb byte 32) (Some bytes) None (Some rest) e) [
      | inl p ↦ ap (λ b. b ∷ bytes) (eqb-true byte 32 p.0) ∙ ap (λ (l : List ℕ). 32 ∷ l) (some_is bytes rest p.1)
      | inr p ↦ none_isn't rest _ p.1
    ]

space_again : (bytes : List ℕ) → space_at (32 ∷ bytes) ≡ Some bytes
unfolding space_at
space_again bytes = refl

-- the space before a field
pub takes_spaced : {A : Type 0} (take_first : Taker A) (text : A → List ℕ) (IsIn : A → Type 0) (size : ℕ) → Takes take_first text IsIn size
    → Takes (λ bytes. option_and_then take_first (space_at bytes)) (λ value. 32 ∷ text value) IsIn (size + 1)
takes_spaced take_first text IsIn size f = record {
  takes = λ bytes rest value e.
      let step = bind_some (space_at bytes) take_first (value, rest) e in
      let inner = f.takes step.0 rest value step.2 in
      (inner.0, space_takes bytes step.0 step.1 ∙ ap (λ (l : List ℕ). 32 ∷ l) inner.1);
  again = λ value rest h. ap (option_and_then take_first) (space_again (text value ++ rest)) ∙ f.again value rest h;
  short = λ value h. omega (arith, f.short value h);
}

pub reads_spaced : {A : Type 0} (read : List ℕ → Option A) (text : A → List ℕ) (IsIn : A → Type 0) (size : ℕ) → ReadsAll read text IsIn size
    → ReadsAll (λ bytes. option_and_then read (space_at bytes)) (λ value. 32 ∷ text value) IsIn (size + 1)
reads_spaced read text IsIn size f = record {
  takes = λ bytes value e.
      let step = bind_some (space_at bytes) read value e in
      let inner = f.takes step.0 value step.2 in
      (inner.0, space_takes bytes step.0 step.1 ∙ ap (λ (l : List ℕ). 32 ∷ l) inner.1);
  again = λ value h. ap (option_and_then read) (space_again (text value)) ∙ f.again value h;
  short = λ value h. omega (arith, f.short value h);
}

ended_takes : {A : Type 0} (first value : A) (rest : List ℕ) → ended first rest ≡ Some value → (first ≡ value) × (rest ≡ [])
ended_takes first value [] e = (some_is first value e, refl)
ended_takes first value (byte ∷ rest) e = none_isn't value _ e

-- a field, and the end
pub reads_whole : {A : Type 0} (take_first : Taker A) (text : A → List ℕ) (IsIn : A → Type 0) (size : ℕ) → Takes take_first text IsIn size
    → ReadsAll (whole take_first) text IsIn size
reads_whole {A} take_first text IsIn size f = record {
  takes = λ bytes value e.
      let step = bind_some (take_first bytes) (λ first. ended first.0 first.1) value e in
      let inner = f.takes bytes step.0.1 step.0.0 step.1 in
      let last = ended_takes step.0.0 value step.0.1 step.2 in
      (subst IsIn last.0 inner.0, inner.1 ∙ ap (λ (l : List ℕ). text step.0.0 ++ l) last.1 ∙ append-nil (text step.0.0) ∙ ap text last.0);
  again = λ value h.
      ap (λ (l : List ℕ). whole take_first l) (sym (append-nil (text value)))
      ∙ ap (option_and_then (λ first. ended first.0 first.1)) (f.again value [] h);
  short = f.short;
}

-- a field, and what follows
pub reads_then : {A B : Type 0} (take_first : Taker A) (text : A → List ℕ) (IsIn : A → Type 0) (size : ℕ)
    (read : List ℕ → Option B) (after : B → List ℕ) (IsAfter : B → Type 0) (more : ℕ)
    → Takes take_first text IsIn size → ReadsAll read after IsAfter more
    → ReadsAll (take_first ▹ read) (λ both. text both.0 ++ after both.1) (λ both. IsIn both.0 × IsAfter both.1) (size + more)
reads_then {A} {B} take_first text IsIn size read after IsAfter more f g = record {
  takes = λ bytes both e.
      let step = bind_some (take_first bytes) (λ first. option_map (λ rest. (first.0, rest)) (read first.1)) both e in
      let next = map_some (read step.0.1) (λ rest. (step.0.0, rest)) both step.2 in
      let front = f.takes bytes step.0.1 step.0.0 step.1 in
      let back = g.takes step.0.1 next.0 next.1 in
      subst (λ (b : A × B). (IsIn b.0 × IsAfter b.1) × (bytes ≡ text b.0 ++ after b.1)) next.2
      ((front.0, back.0), front.1 ∙ ap (λ (l : List ℕ). text step.0.0 ++ l) back.1);
  again = λ both h.
      ap (option_and_then (λ first. option_map (λ rest. (first.0, rest)) (read first.1))) (f.again both.0 (after both.1) h.0)
      ∙ ap (option_map (λ rest. (both.0, rest))) (g.again both.1 h.1);
  short = λ both h. rw length-append (omega (arith, f.short both.0 h.0, g.short both.1 h.1));
}

-- what is made of a value that was read from all of the bytes
pub reads_made : {A B : Type 0} (read : List ℕ → Option A) (text : A → List ℕ) (IsIn : A → Type 0) (size : ℕ) (make : A → B) (written : B → List ℕ) (IsMade : B → Type 0)
    → ((value : A) → IsIn value → IsMade (make value) × (text value ≡ written (make value)))
    → ((b : B) → IsMade b → (value : A) × IsIn value × (make value ≡ b))
    → ReadsAll read text IsIn size → ReadsAll (λ bytes. option_map make (read bytes)) written IsMade size
reads_made read text IsIn size make written IsMade makes is_made f = record {
  takes = λ bytes b e.
      let step = map_some (read bytes) make b e in
      let inner = f.takes bytes step.0 step.1 in
      let made = makes step.0 inner.0 in
      (subst IsMade step.2 made.0, inner.1 ∙ made.1 ∙ ap written step.2);
  again = λ b h.
      let from = is_made b h in
      let text_is : written b ≡ text from.0 = sym (ap written from.2) ∙ sym (makes from.0 from.1).1 in
      ap (λ (l : List ℕ). option_map make (read l)) text_is ∙ ap (option_map make) (f.again from.0 from.1) ∙ ap (λ x. Some x) from.2;
  short = λ b h.
      let from = is_made b h in
      let text_is : written b ≡ text from.0 = sym (ap written from.2) ∙ sym (makes from.0 from.1).1 in
      omega (arith, f.short from.0 from.1, ap length text_is);
}

-- ---- fields and lines with their texts

-- a field: what takes it, its texts and their values, the most bytes of a text, and that it is taken exactly
pub record Field (A : Type 0) : Type 1 where
  pub take_first : Taker A
  pub text : A → List ℕ
  pub IsIn : A → Type 0
  pub size : ℕ
  pub exact : Takes take_first text IsIn size

-- the same of the rest of a line
pub record Rest (A : Type 0) : Type 1 where
  pub read : List ℕ → Option A
  pub text : A → List ℕ
  pub IsIn : A → Type 0
  pub size : ℕ
  pub exact : ReadsAll read text IsIn size

-- a field that is the last of its line
abbrev pub last : {A : Type 0} → Field A → Rest A
last f = record {
  read = whole f.take_first;
  text = f.text;
  IsIn = f.IsIn;
  size = f.size;
  exact = reads_whole f.take_first f.text f.IsIn f.size f.exact;
}

-- a field, and the rest of its line
infixr 10 ◌then◌
abbrev pub ◌then◌ : {A B : Type 0} → Field A → Rest B → Rest (A × B)
f then r = record {
  read = f.take_first ▹ r.read;
  text = λ both. f.text both.0 ++ r.text both.1;
  IsIn = λ both. f.IsIn both.0 × r.IsIn both.1;
  size = f.size + r.size;
  exact = reads_then f.take_first f.text f.IsIn f.size r.read r.text r.IsIn r.size f.exact r.exact;
}
