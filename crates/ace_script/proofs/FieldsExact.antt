-- What reads a field is exact: it reads each text of a value, and nothing else.
use Rattle.std.proofs.Common.{◌≡◌, ℕ, ◌*◌, ◌^◌, ◌<◌, Bool, true, cond, eqb, List, [], ◌∷◌, length, Result, Ok, Err, Some, refl, sym, ap, subst, ◌∙◌, arith, inl, inr}
use Rattle.std.specs.List.{AllByRecursion}
use Rattle.std.specs.Str.{bytes_eq}
use Rattle.std.proofs.lemmas.Bool.{eqb-true, eq-eqb, cond-true}
use Rattle.std.proofs.lemmas.Slice.Eq.{bytes_eq-Decides}
use Rattle.ace_codes.specs.declared.kind.ArKind.{ArKind}
use Rattle.ace_codes.specs.declared.kind.ArKind.TheVariants as read
use Rattle.ace_event.specs.Text.{hex_text}
use Rattle.ace_tables.specs.EndStates.{is_fetch}
use Rattle.ace_grammar.specs.Fields.{digits_onto}
use Rattle.ace_grammar.proofs.General.Options.{chosen}
use Rattle.ace_grammar.proofs.General.Visible.{IsVisible}
use Rattle.ace_grammar.proofs.Digits.Hex.{onto_below, digits_text, number_again, length-hex_text, hex_text-visible}
use Rattle.ace_script.specs.declared.reason.Reason.{Reason}
use Rattle.ace_script.specs.declared.reason.Reason.TheVariants.{P3, P4, P5}
use Rattle.ace_script.specs.Text.{fetch_text}
use Rattle.ace_script.specs.Fields.{number_in, number_of, if_in, fetch_of, both, one_field, two_fields, three_fields}
use Rattle.ace_script.proofs.Results.{ok_is, err_isn't, both_ok, both_again, in_ok, in_again, number_in_ok}

-- a field: what reads it, its texts, and their values
pub record Field (A : Type 0) : Type 1 where
  pub read : List ℕ → Result A Reason
  pub text : A → List ℕ
  pub IsIn : A → Type 0
  pub takes : (field : List ℕ) (a : A) → read field ≡ Ok a → IsIn a × (field ≡ text a)
  pub again : (a : A) → IsIn a → read (text a) ≡ Ok a
  pub visible : (a : A) → IsVisible (text a)

-- ---- numbers

-- digits are the text of the number that they make
pub told_number : (count : ℕ) (field : List ℕ) (n : ℕ) → length field ≡ count → digits_onto 0 field ≡ Some n → (n < 16 ^ count) × (field ≡ hex_text count n)
told_number count field n size told =
    let below : n < 1 * 16 ^ length field = onto_below field 0 n told in
    let below' : n < 16 ^ length field = omega (arith, below) in
    (subst (λ k. n < 16 ^ k) size below', digits_text field n told ∙ ap (λ k. hex_text k n) size)

pub number_takes : (count : ℕ) (field : List ℕ) (n : ℕ) → number_of count field ≡ Ok n → (n < 16 ^ count) × (field ≡ hex_text count n)
unfolding number_of
number_takes count field n e =
    elim (chosen (eqb (length field) count) (number_in (digits_onto 0 field)) (Err P4) (Ok n) e) [
      | inl p ↦ told_number count field n (eqb-true (length field) count p.0) (number_in_ok (digits_onto 0 field) n p.1)
      | inr p ↦ err_isn't P4 n _ p.1
    ]

pub number_reads : (count n : ℕ) → n < 16 ^ count → number_of count (hex_text count n) ≡ Ok n
unfolding number_of
number_reads count n h =
    cond-true (eqb (length (hex_text count n)) count) _ _ (eq-eqb (length (hex_text count n)) count (length-hex_text count n))
    ∙ ap number_in (number_again count n h)

abbrev pub number : ℕ → Field ℕ
number count = record {
  read = number_of count;
  text = hex_text count;
  IsIn = λ n. n < 16 ^ count;
  takes = number_takes count;
  again = number_reads count;
  visible = hex_text-visible count;
}

pub limited_takes : (count : ℕ) (is_in : ℕ → Bool) (field : List ℕ) (n : ℕ) → if_in is_in (number_of count field) ≡ Ok n
    → ((n < 16 ^ count) × (is_in n ≡ true)) × (field ≡ hex_text count n)
limited_takes count is_in field n e =
    let parts = in_ok is_in (number_of count field) n e in
    let told = number_takes count field n parts.0 in
    ((told.0, parts.1), told.1)

-- a number in a range
abbrev pub limited : ℕ → (ℕ → Bool) → Field ℕ
limited count is_in = record {
  read = λ field. if_in is_in (number_of count field);
  text = hex_text count;
  IsIn = λ n. (n < 16 ^ count) × (is_in n ≡ true);
  takes = limited_takes count is_in;
  again = λ n h. in_again is_in (number_of count (hex_text count n)) n (number_reads count n h.0) h.1;
  visible = hex_text-visible count;
}

-- fewer digits, a smaller number
pub digits_below : (field : List ℕ) (n count : ℕ) → length field ≡ count → Some n ≡ digits_onto 0 field → n < 16 ^ count
digits_below field n count size told = (told_number count field n size (sym told)).0

-- ---- the letter of a read ahead

letter_or : (field : List ℕ) (known kind : ArKind) (other : Result ArKind Reason) → is_fetch known ≡ true
    → (other ≡ Ok kind → (is_fetch kind ≡ true) × (field ≡ fetch_text kind))
    → cond (bytes_eq field (fetch_text known)) (Ok known) other ≡ Ok kind → (is_fetch kind ≡ true) × (field ≡ fetch_text kind)
letter_or field known kind other fetches told e =
    elim (chosen (bytes_eq field (fetch_text known)) (Ok known) other (Ok kind) e) [
      | inl p ↦
          let same = ok_is known kind p.1 in
          (ap is_fetch (sym same) ∙ fetches, (bytes_eq-Decides field (fetch_text known)).0 p.0 ∙ ap fetch_text same)
      | inr p ↦ told p.1
    ]

pub fetch_takes : (field : List ℕ) (kind : ArKind) → fetch_of field ≡ Ok kind → (is_fetch kind ≡ true) × (field ≡ fetch_text kind)
unfolding fetch_of
fetch_takes field kind e =
    letter_or field read.ReadShared kind _ refl (λ e.
    letter_or field read.ReadClean kind _ refl (λ e.
    letter_or field read.ReadNotSharedDirty kind _ refl (λ e.
    letter_or field read.ReadUnique kind _ refl (λ e. err_isn't P5 kind _ e) e) e) e) e

pub fetch_reads : (kind : ArKind) → is_fetch kind ≡ true → fetch_of (fetch_text kind) ≡ Ok kind
unfolding fetch_of
fetch_reads read.ReadShared h = refl
fetch_reads read.ReadClean h = refl
fetch_reads read.ReadNotSharedDirty h = refl
fetch_reads read.ReadUnique h = refl
fetch_reads read.ReadNoSnoop h = absurd cc
fetch_reads read.ReadOnce h = absurd cc
fetch_reads read.CleanUnique h = absurd cc
fetch_reads read.MakeUnique h = absurd cc
fetch_reads read.CleanShared h = absurd cc
fetch_reads read.CleanInvalid h = absurd cc
fetch_reads read.MakeInvalid h = absurd cc
fetch_reads read.DvmComplete h = absurd cc
fetch_reads read.DvmMessage h = absurd cc
fetch_reads read.Barrier h = absurd cc

pub fetch_visible : (kind : ArKind) → IsVisible (fetch_text kind)
fetch_visible read.ReadShared = grind arith
fetch_visible read.ReadClean = grind arith
fetch_visible read.ReadNotSharedDirty = grind arith
fetch_visible _ = grind arith

abbrev pub fetch : Field ArKind
fetch = record {
  read = fetch_of;
  text = fetch_text;
  IsIn = λ kind. is_fetch kind ≡ true;
  takes = fetch_takes;
  again = fetch_reads;
  visible = fetch_visible;
}

-- ---- fields in a row

-- the fields behind a word
pub record Row (F : Type 0) : Type 1 where
  pub read : List (List ℕ) → Result F Reason
  pub texts : F → List (List ℕ)
  pub IsIn : F → Type 0
  pub takes : (fields : List (List ℕ)) (f : F) → read fields ≡ Ok f → IsIn f × (fields ≡ texts f)
  pub again : (f : F) → IsIn f → read (texts f) ≡ Ok f
  pub visible : (f : F) → AllByRecursion IsVisible (texts f)

pub one_takes : {A : Type 0} (f : Field A) (fields : List (List ℕ)) (a : A) → one_field f.read fields ≡ Ok a → f.IsIn a × (fields ≡ f.text a ∷ [])
one_takes f [] a e = err_isn't P3 a _ e
one_takes f (x ∷ []) a e = let told = f.takes x a e in (told.0, ap (λ (l : List ℕ). l ∷ []) told.1)
one_takes f (x ∷ y ∷ l) a e = err_isn't P3 a _ e

abbrev pub one : {A : Type 0} → Field A → Row A
one f = record {
  read = one_field f.read;
  texts = λ a. f.text a ∷ [];
  IsIn = f.IsIn;
  takes = one_takes f;
  again = f.again;
  visible = λ a. (f.visible a, tt);
}

pub two_takes : {A B : Type 0} (f : Field A) (g : Field B) (fields : List (List ℕ)) (x : A × B) → two_fields f.read g.read fields ≡ Ok x
    → (f.IsIn x.0 × g.IsIn x.1) × (fields ≡ f.text x.0 ∷ g.text x.1 ∷ [])
two_takes f g [] x e = err_isn't P3 x _ e
two_takes f g (a ∷ []) x e = err_isn't P3 x _ e
two_takes f g (a ∷ b ∷ []) x e =
    let parts = both_ok (f.read a) (g.read b) x e in
    let first = f.takes a x.0 parts.0 in
    let second = g.takes b x.1 parts.1 in
    ((first.0, second.0), ap (λ (l : List ℕ). l ∷ b ∷ []) first.1 ∙ ap (λ (l : List ℕ). f.text x.0 ∷ l ∷ []) second.1)
two_takes f g (a ∷ b ∷ c ∷ l) x e = err_isn't P3 x _ e

abbrev pub two : {A B : Type 0} → Field A → Field B → Row (A × B)
two f g = record {
  read = two_fields f.read g.read;
  texts = λ x. f.text x.0 ∷ g.text x.1 ∷ [];
  IsIn = λ x. f.IsIn x.0 × g.IsIn x.1;
  takes = two_takes f g;
  again = λ x h. both_again (f.read (f.text x.0)) (g.read (g.text x.1)) x.0 x.1 (f.again x.0 h.0) (g.again x.1 h.1);
  visible = λ x. (f.visible x.0, (g.visible x.1, tt));
}

pub three_takes : {A B C : Type 0} (f : Field A) (g : Field B) (h : Field C) (fields : List (List ℕ)) (x : A × (B × C)) → three_fields f.read g.read h.read fields ≡ Ok x
    → (f.IsIn x.0 × (g.IsIn x.1.0 × h.IsIn x.1.1)) × (fields ≡ f.text x.0 ∷ g.text x.1.0 ∷ h.text x.1.1 ∷ [])
three_takes f g h [] x e = err_isn't P3 x _ e
three_takes f g h (a ∷ []) x e = err_isn't P3 x _ e
three_takes f g h (a ∷ b ∷ []) x e = err_isn't P3 x _ e
three_takes f g h (a ∷ b ∷ c ∷ []) x e =
    let parts = both_ok (f.read a) (both (g.read b) (h.read c)) x e in
    let more = both_ok (g.read b) (h.read c) x.1 parts.1 in
    let first = f.takes a x.0 parts.0 in
    let second = g.takes b x.1.0 more.0 in
    let third = h.takes c x.1.1 more.1 in (
      (first.0, (second.0, third.0)),
      ap (λ (l : List ℕ). l ∷ b ∷ c ∷ []) first.1 ∙ ap (λ (l : List ℕ). f.text x.0 ∷ l ∷ c ∷ []) second.1
          ∙ ap (λ (l : List ℕ). f.text x.0 ∷ g.text x.1.0 ∷ l ∷ []) third.1,
    )
three_takes f g h (a ∷ b ∷ c ∷ d ∷ l) x e = err_isn't P3 x _ e

abbrev pub three : {A B C : Type 0} → Field A → Field B → Field C → Row (A × (B × C))
three f g h = record {
  read = three_fields f.read g.read h.read;
  texts = λ x. f.text x.0 ∷ g.text x.1.0 ∷ h.text x.1.1 ∷ [];
  IsIn = λ x. f.IsIn x.0 × (g.IsIn x.1.0 × h.IsIn x.1.1);
  takes = three_takes f g h;
  again = λ x is. both_again (f.read (f.text x.0)) (both (g.read (g.text x.1.0)) (h.read (h.text x.1.1))) x.0 x.1 (f.again x.0 is.0)
      (both_again (g.read (g.text x.1.0)) (h.read (h.text x.1.1)) x.1.0 x.1.1 (g.again x.1.0 is.1.0) (h.again x.1.1 is.1.1));
  visible = λ x. (f.visible x.0, (g.visible x.1.0, (h.visible x.1.1, tt)));
}
