-- The fields behind each record word: no reason applies exactly to the texts of their values.
use Rattle.std.proofs.Common.{◌≡◌, ℕ, List, [], ◌∷◌, Option, Some, None, refl, ap, ◌∙◌, inl, inr}
use Rattle.std.specs.List.{AllByRecursion}
use Rattle.ace_grammar.specs.declared.reason.Reason.{Reason}
use Rattle.ace_grammar.specs.declared.reason.Reason.TheVariants.{F3}
use Rattle.ace_grammar.specs.declared.shapes.Shape.{Shape}
use Rattle.ace_grammar.specs.Records.{ArFields, RFields, RkFields, AwFields, WFields, BFields, WkFields, AcFields, CrFields, CdFields, GFields, MFields, SFields, LFields, DFields, OpFields, MemFields}
use Rattle.ace_grammar.specs.Reasons.{field_reason, least, fields_reason}
use Rattle.ace_grammar.proofs.General.Visible.{IsVisible}
use Rattle.ace_grammar.proofs.Texts.FieldTexts.{room_of_domain, room_of_write_snoop}
use Rattle.ace_grammar.proofs.General.Options.{chosen}
use Rattle.ace_grammar.proofs.Reasons.FieldKinds.{Kind, some_isn't_none, port, digits, at_most, response, flag, channel, state, outcome}
use Rattle.ace_grammar.proofs.Reasons.LineKind.{line}

-- the fields behind a record word
pub record Row (version : ℕ) (F : Type 0) : Type 1 where
  pub shapes : List Shape
  pub texts : F → List (List ℕ)
  pub IsIn : F → Type 0
  pub decode : (fields : List (List ℕ)) → fields_reason version shapes fields ≡ None → (f : F) × IsIn f × (fields ≡ texts f)
  pub encode : (f : F) → IsIn f → fields_reason version shapes (texts f) ≡ None
  pub visible : (f : F) → AllByRecursion IsVisible (texts f)

least_none : (one other : Option Reason) → least one other ≡ None → (one ≡ None) × (other ≡ None)
least_none None other e = (refl, e)
least_none (Some a) None e = some_isn't_none a _ e
least_none (Some a) (Some b) e =
    elim (chosen _ (Some a) (Some b) None e) [ inl p ↦ some_isn't_none a _ p.1 | inr p ↦ some_isn't_none b _ p.1 ]

pub only_decode : {version : ℕ} {A : Type 0} (k : Kind version A) (fields : List (List ℕ)) → fields_reason version (k.shape ∷ []) fields ≡ None → (f : A) × k.IsIn f × (fields ≡ k.text f ∷ [])
unfolding fields_reason
only_decode {version} k [] e = some_isn't_none F3 _ e
only_decode {version} k (field ∷ []) e =
    let value = k.decode field (least_none (field_reason version k.shape field) None e).0 in
    (value.0, value.1, ap (λ (l : List ℕ). l ∷ []) value.2)
only_decode {version} k (field ∷ other ∷ fields) e = some_isn't_none F3 _ (least_none (field_reason version k.shape field) (Some F3) e).1

pub only_encode : {version : ℕ} {A : Type 0} (k : Kind version A) (f : A) → k.IsIn f → fields_reason version (k.shape ∷ []) (k.text f ∷ []) ≡ None
unfolding fields_reason
only_encode {version} k f h = ap (λ o. least o None) (k.encode f h)

pub and_decode : {version : ℕ} {A B : Type 0} (k : Kind version A) (r : Row version B) (fields : List (List ℕ)) → fields_reason version (k.shape ∷ r.shapes) fields ≡ None
    → (f : A × B) × (k.IsIn f.0 × r.IsIn f.1) × (fields ≡ k.text f.0 ∷ r.texts f.1)
unfolding fields_reason
and_decode {version} k r [] e = some_isn't_none F3 _ e
and_decode {version} k r (field ∷ fields) e =
    let none = least_none (field_reason version k.shape field) (fields_reason version r.shapes fields) e in
    let value = k.decode field none.0 in
    let rest = r.decode fields none.1 in
    ((value.0, rest.0), (value.1, rest.1), ap (λ (l : List ℕ). l ∷ fields) value.2 ∙ ap (λ (l : List (List ℕ)). k.text value.0 ∷ l) rest.2)

pub and_encode : {version : ℕ} {A B : Type 0} (k : Kind version A) (r : Row version B) (f : A × B) → k.IsIn f.0 × r.IsIn f.1 → fields_reason version (k.shape ∷ r.shapes) (k.text f.0 ∷ r.texts f.1) ≡ None
unfolding fields_reason
and_encode {version} k r f h = ap (λ o. least o (fields_reason version r.shapes (r.texts f.1))) (k.encode f.0 h.0) ∙ r.encode f.1 h.1

abbrev pub only : {version : ℕ} {A : Type 0} → Kind version A → Row version A
only k = record {
  shapes = k.shape ∷ [];
  texts = λ f. k.text f ∷ [];
  IsIn = k.IsIn;
  decode = only_decode k;
  encode = only_encode k;
  visible = λ f. (k.visible f, tt);
}

infixr 10 ◌also◌
abbrev pub ◌also◌ : {version : ℕ} {A B : Type 0} → Kind version A → Row version B → Row version (A × B)
k also r = record {
  shapes = k.shape ∷ r.shapes;
  texts = λ f. k.text f.0 ∷ r.texts f.1;
  IsIn = λ f. k.IsIn f.0 × r.IsIn f.1;
  decode = and_decode k r;
  encode = and_encode k r;
  visible = λ f. (k.visible f.0, r.visible f.1);
}

abbrev pub ar : (version : ℕ) → Row version ArFields
ar version = port also (digits 1) also (digits 8) also (digits 1) also (at_most 3 room_of_domain) also (at_most 3 room_of_domain) also only flag

abbrev pub r : (version : ℕ) → Row version RFields
r version = port also (digits 1) also (digits 1) also flag also only (digits 32)

abbrev pub rk : (version : ℕ) → Row version RkFields
rk version = port also only state

abbrev pub aw : (version : ℕ) → Row version AwFields
aw version = port also (digits 1) also (digits 8) also (at_most 7 room_of_write_snoop) also (at_most 3 room_of_domain) also only (at_most 3 room_of_domain)

abbrev pub w : (version : ℕ) → Row version WFields
w version = port also (digits 4) also flag also only (digits 32)

abbrev pub b : (version : ℕ) → Row version BFields
b version = port also (digits 1) also only (at_most 3 room_of_domain)

abbrev pub wk : (version : ℕ) → Row version WkFields
wk version = port also only state

abbrev pub ac : (version : ℕ) → Row version AcFields
ac version = port also (digits 8) also only (digits 1)

abbrev pub cr : (version : ℕ) → Row version CrFields
cr version = port also response also only state

abbrev pub cd : (version : ℕ) → Row version CdFields
cd version = port also flag also only (digits 32)

abbrev pub g : (version : ℕ) → Row version GFields
g version = port also channel also only (digits 1)

abbrev pub m : (version : ℕ) → Row version MFields
m version = port also channel also (digits 1) also only line

abbrev pub s : (version : ℕ) → Row version SFields
s version = port also (digits 8) also only state

abbrev pub l : (version : ℕ) → Row version LFields
l version = port also (digits 8) also (at_most 3 room_of_domain) also flag also only (digits 32)

abbrev pub d : (version : ℕ) → Row version DFields
d version = port also (digits 8) also (digits 16) also flag also only line

abbrev pub op : (version : ℕ) → Row version OpFields
op version = port also (digits 4) also only outcome

abbrev pub mem : (version : ℕ) → Row version MemFields
mem version = (digits 8) also only line
