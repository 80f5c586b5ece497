-- What the tables say of the state in which an event leaves a port: it is no more than the state before, or the kind of the
-- transaction says what the other ports may hold.
use Rattle.std.proofs.Common.{◌≡◌, ◌⊎◌, ℕ, Bool, true, false, not, ◌&&◌, ◌||◌, nat_eq, List, [], ◌∷◌, refl, sym, ap, subst, ◌∙◌, inl, inr}
use Rattle.std.proofs.lemmas.Bool.{not-false, and_parts, or_cases, not-true, eqb-true}
use Rattle.ace_model.proofs.Terms.{list_all, list_any, AwKind, SnoopKind, LineState, I, UC, UD, SC, SD, passes_dirty, is_shared, must_pass_dirty, states_after}
use Rattle.ace_model.proofs.Terms.{is_line_row, is_plain_row, is_snoop_row, end_states_of_write, ends_write, is_silent_move, is_among, is_invalid, is_unique, is_dirty, same_state, implies}
use Rattle.ace_codes.specs.declared.kind.AwKind.TheVariants as write
use Rattle.ace_codes.specs.declared.kind.SnoopKind.TheVariants as snoop
use Rattle.ace_model.proofs.General.Booleans.{implies-at, not_more}
use Rattle.ace_model.proofs.Tables.LineRow.{line_row}

-- I and SC: the port may not store, and owes no write
abbrev pub is_settled : LineState → Bool
is_settled I = true
is_settled SC = true
is_settled _ = false

-- the new state is no more than the old one, but that a unique line may have become dirty
abbrev pub lessens : LineState → LineState → Bool
lessens old new =
    implies (is_invalid old) (is_invalid new) && implies (is_unique new) (is_unique old) && implies (is_settled old) (is_settled new)

-- the new state is dirty only where the old one was
abbrev pub cleans : LineState → LineState → Bool
cleans old new = implies (is_dirty new) (is_dirty old)

pub record Lessens (old new : LineState) : Type 0 where
  pub gone : old ≡ I → new ≡ I
  pub not_unique : is_unique old ≡ false → is_unique new ≡ false
  pub settled : is_settled old ≡ true → is_settled new ≡ true

-- snoops that leave the port with nothing, and snoops that leave it with no unique state
abbrev pub invalidates : SnoopKind → Bool
invalidates snoop.ReadUnique = true
invalidates snoop.CleanInvalid = true
invalidates snoop.MakeInvalid = true
invalidates _ = false

abbrev pub shares_line : SnoopKind → Bool
shares_line snoop.ReadShared = true
shares_line snoop.ReadClean = true
shares_line snoop.ReadNotSharedDirty = true
shares_line _ = false

-- What an answer to a snoop of this kind, with IsShared or not, says of the state of the port.
pub record Leaves (k : SnoopKind) (shared : Bool) (st : LineState) : Type 0 where
  pub gone : (not shared || invalidates k) ≡ true → st ≡ I
  pub not_unique : shares_line k ≡ true → is_unique st ≡ false

pub each_state : (P : LineState → Type 0) → P I → P UC → P UD → P SC → P SD → (st : LineState) → P st
each_state P i uc ud sc sd I = i
each_state P i uc ud sc sd UC = uc
each_state P i uc ud sc sd UD = ud
each_state P i uc ud sc sd SC = sc
each_state P i uc ud sc sd SD = sd

pub is_invalid-is : (st : LineState) → is_invalid st ≡ true → st ≡ I
is_invalid-is I e = refl
is_invalid-is st e = cc

pub same_state-is : (a b : LineState) → same_state a b ≡ true → a ≡ b
same_state-is I I e = refl
same_state-is UC UC e = refl
same_state-is UD UD e = refl
same_state-is SC SC e = refl
same_state-is SD SD e = refl
same_state-is a b e = cc

-- what holds of each state of a list holds of one that is among them
pub all_among : (good : LineState → Bool) (xs : List LineState) (st : LineState) → is_among st xs ≡ true → list_all good xs ≡ true → good st ≡ true
all_among good [] st e a = cc
all_among good (x ∷ xs) st e a =
    let parts = and_parts (good x) (list_all good xs) a in
    elim (or_cases (same_state st x) (list_any (same_state st) xs) e) [
      | inl t ↦ subst (λ s. good s ≡ true) (sym (same_state-is st x t)) parts.0
      | inr u ↦ all_among good xs st u parts.1
    ]

pub Lessens-self : (st : LineState) → Lessens st st
Lessens-self st = record { gone = λ e. e; not_unique = λ e. e; settled = λ e. e }

pub Lessens-same : (old new : LineState) → new ≡ old → Lessens old new
Lessens-same old new e = subst (Lessens old) (sym e) (Lessens-self old)

pub lessens-is : (old new : LineState) → lessens old new ≡ true → Lessens old new
lessens-is old new e =
    let parts = and_parts (implies (is_invalid old) (is_invalid new) && implies (is_unique new) (is_unique old)) _ e in
    let two = and_parts (implies (is_invalid old) (is_invalid new)) _ parts.0 in
    record {
      gone = λ o. is_invalid-is new (implies-at _ _ two.0 (ap is_invalid o));
      not_unique = λ o. not_more (is_unique new) (is_unique old) two.1 o;
      settled = λ o. implies-at _ _ parts.1 o;
    }

-- to give up the line
pub to_invalid : (old : LineState) → (lessens old I && cleans old I) ≡ true
to_invalid = each_state (λ old. (lessens old I && cleans old I) ≡ true) refl refl refl refl refl

-- a silent transition
pub silent_lessens : (old new : LineState) → is_silent_move old new ≡ true → (lessens old new && cleans old new) ≡ true
silent_lessens UC SC e = refl
silent_lessens UC I e = refl
silent_lessens SC I e = refl
silent_lessens UD SD e = refl
silent_lessens old new e = cc

-- the end of a write
write_ends : (k : AwKind) (held : LineState) → list_all (λ st. lessens held st && cleans held st) (end_states_of_write k held) ≡ true
write_ends write.Barrier = each_state _ refl refl refl refl refl
write_ends k = each_state _ refl refl refl refl refl

pub write_lessens : (k : AwKind) (held st : LineState) → ends_write k held st ≡ true → (lessens held st && cleans held st) ≡ true
write_lessens k held st e = all_among (λ s. lessens held s && cleans held s) (end_states_of_write k held) st e (write_ends k held)

-- the answer to a snoop
abbrev answer_fits : SnoopKind → LineState → LineState → Bool
answer_fits k held st =
    (lessens held st && cleans held st) && (implies (invalidates k) (is_invalid st) && implies (shares_line k) (not (is_unique st)))

answer_states : (k : SnoopKind) (held : LineState) → list_all (answer_fits k held) (states_after k held) ≡ true
answer_states snoop.DvmMessage = each_state _ refl refl refl refl refl
answer_states k = each_state _ refl refl refl refl refl

-- a row is plain, or one of a line
pub row_cases : (k : SnoopKind) (resp : ℕ) (next held : LineState) → is_snoop_row k held false resp next ≡ true
    → (is_plain_row resp next ≡ true) ⊎ (is_line_row k held false resp next ≡ true)
row_cases snoop.DvmComplete resp next held e = inl e
row_cases snoop.DvmMessage resp next held e = inl e
row_cases k resp next I e = inl e
row_cases k resp next held e = inr e

pub must_pass_parts : (k : SnoopKind) (held next : LineState) → must_pass_dirty k held next ≡ true → (is_dirty held ≡ true) × (not (is_dirty next) ≡ true)
must_pass_parts snoop.MakeInvalid held next e = cc
must_pass_parts k held next e = and_parts (is_dirty held) (not (is_dirty next)) e

-- What a row says: the state that it leaves, and that PassDirty hands the dirt on.
pub record Row (k : SnoopKind) (held : LineState) (resp : ℕ) (next : LineState) : Type 0 where
  pub less : (lessens held next && cleans held next) ≡ true
  pub leaves : Leaves k (is_shared resp) next
  pub passes : passes_dirty resp ≡ true → (is_dirty held ≡ true) × (not (is_dirty next) ≡ true)

pub row_is : (k : SnoopKind) (held : LineState) (resp : ℕ) (next : LineState) → is_snoop_row k held false resp next ≡ true → Row k held resp next
row_is k held resp next e =
    elim (row_cases k resp next held e) [
      | inl plain ↦
          let parts = and_parts (nat_eq resp 0) (is_invalid next) plain in
          let gone = is_invalid-is next parts.1 in
          let none = eqb-true resp 0 parts.0 in
          record {
            less = subst (λ st. (lessens held st && cleans held st) ≡ true) (sym gone) (to_invalid held);
            leaves = record { gone = λ t. gone; not_unique = λ t. ap is_unique gone };
            passes = λ t. let bad : passes_dirty 0 ≡ true = subst (λ n. passes_dirty n ≡ true) none t in cc;
          }
      | inr line ↦
          let r = line_row k held false resp next line in
          let fits = and_parts (lessens held next && cleans held next) _ (all_among (answer_fits k held) (states_after k held) next r.among (answer_states k held)) in
          let kinds = and_parts (implies (invalidates k) (is_invalid next)) _ fits.1 in
          record {
            less = fits.0;
            leaves = record {
              gone = λ t. elim (or_cases (not (is_shared resp)) (invalidates k) t) [
                | inl given ↦ is_invalid-is next (not-false (is_invalid next) (sym r.shared ∙ not-true (is_shared resp) given))
                | inr taken ↦ is_invalid-is next (implies-at _ _ kinds.0 taken)
              ];
              not_unique = λ t. not-true (is_unique next) (implies-at _ _ kinds.1 t);
            };
            passes = λ t. must_pass_parts k held next (sym r.pass ∙ t);
          }
    ]

-- a valid state is not I, nor is a unique or a dirty one
pub invalid_not : (st : LineState) → is_invalid st ≡ false → st ≡ I → ⊥
invalid_not st v e = let bad : true ≡ false = sym (ap is_invalid e) ∙ v in cc

pub valid_not : (st : LineState) → (st ≡ I → ⊥) → is_invalid st ≡ false
valid_not I n = absurd (n refl)
valid_not st n = refl

pub unique_valid : (st : LineState) → is_unique st ≡ true → st ≡ I → ⊥
unique_valid st u e = let bad : false ≡ true = sym (ap is_unique e) ∙ u in cc

pub dirty_valid : (st : LineState) → is_dirty st ≡ true → st ≡ I → ⊥
dirty_valid st d e = let bad : false ≡ true = sym (ap is_dirty e) ∙ d in cc

-- a settled one is neither unique nor dirty
pub unique_unsettled : (st : LineState) → is_unique st ≡ true → is_settled st ≡ true → ⊥
unique_unsettled UC u s = cc
unique_unsettled st u s = cc

pub dirty_unsettled : (st : LineState) → is_dirty st ≡ true → is_settled st ≡ true → ⊥
dirty_unsettled UC d s = cc
dirty_unsettled st d s = cc
