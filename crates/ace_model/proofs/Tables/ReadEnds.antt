-- What the table of the ends of reads says: a state that is more than the one before takes what the kind of the read says.
use Rattle.std.proofs.Common.{◌≡◌, ◌⊎◌, Bool, true, false, not, ◌&&◌, ◌||◌, refl, inl, inr}
use Rattle.std.proofs.lemmas.Bool.{and_parts, or_cases, not-true}
use Rattle.ace_model.proofs.Terms.{list_all, ArKind, LineState, I, end_states_of_read, ends_read, is_invalid, is_unique, is_dirty, implies, is_fetch, is_make_unique}
use Rattle.ace_codes.specs.declared.kind.ArKind.TheVariants as read
use Rattle.ace_model.proofs.Tables.States.{each_state, all_among, is_invalid-is}
use Rattle.ace_model.proofs.General.Booleans.{each_flags, implies-at}

-- reads that may end in a unique state, by IsShared and whether it is an exclusive store that failed
abbrev pub takes_alone : ArKind → Bool → Bool → Bool
takes_alone read.ReadUnique shared failed = true
takes_alone read.MakeUnique shared failed = true
takes_alone read.CleanUnique shared failed = not failed
takes_alone read.ReadShared shared failed = not shared
takes_alone read.ReadClean shared failed = not shared
takes_alone read.ReadNotSharedDirty shared failed = not shared
takes_alone read.CleanShared shared failed = not shared
takes_alone _ shared failed = false

-- reads that fetch a line which others may go on to share
abbrev pub takes_shared : ArKind → Bool
takes_shared read.ReadShared = true
takes_shared read.ReadClean = true
takes_shared read.ReadNotSharedDirty = true
takes_shared _ = false

-- the end of a read: a state that is more than the one before takes what its kind says, and the dirt stays
abbrev read_fits : ArKind → LineState → Bool → Bool → Bool → LineState → Bool
read_fits k held shared pass failed st =
    (implies (is_unique st) (is_unique held || takes_alone k shared failed)
    && (is_invalid st || (not (is_invalid held) || (takes_alone k shared failed || takes_shared k))))
    && implies (is_dirty st) (is_dirty held || (pass || takes_alone k shared failed))
    && (implies (pass || is_dirty held || is_make_unique k) (is_dirty st) && (is_invalid st || not (is_invalid held) || (is_fetch k || is_make_unique k)))

-- row by row
read_ends : (k : ArKind) (held : LineState) (shared pass failed : Bool) → list_all (read_fits k held shared pass failed) (end_states_of_read k held shared pass failed) ≡ true
read_ends read.Barrier = each_state _ (each_flags _ refl) (each_flags _ refl) (each_flags _ refl) (each_flags _ refl) (each_flags _ refl)
read_ends k = each_state _ (each_flags _ refl) (each_flags _ refl) (each_flags _ refl) (each_flags _ refl) (each_flags _ refl)

-- What an end state says of the state that was held, and of what the kind takes.
pub record ReadEnds (k : ArKind) (held : LineState) (shared pass failed : Bool) (st : LineState) : Type 0 where
  pub unique : is_unique st ≡ true → (is_unique held ≡ true) ⊎ (takes_alone k shared failed ≡ true)
  pub kept : (st ≡ I) ⊎ ((is_invalid held ≡ false) ⊎ ((takes_alone k shared failed ≡ true) ⊎ (takes_shared k ≡ true)))
  pub dirty : is_dirty st ≡ true → (is_dirty held ≡ true) ⊎ ((pass ≡ true) ⊎ (takes_alone k shared failed ≡ true))
  pub keeps_dirt : (pass || is_dirty held || is_make_unique k) ≡ true → is_dirty st ≡ true
  pub gains : is_invalid held ≡ true → is_invalid st ≡ false → (is_fetch k ≡ true) ⊎ (is_make_unique k ≡ true)

pub read_is : (k : ArKind) (held : LineState) (shared pass failed : Bool) (st : LineState) → ends_read k held shared pass failed st ≡ true
    → ReadEnds k held shared pass failed st
read_is k held shared pass failed st e =
    let all = all_among (read_fits k held shared pass failed) (end_states_of_read k held shared pass failed) st e (read_ends k held shared pass failed) in
    let alone = takes_alone k shared failed in
    let unique_part = implies (is_unique st) (is_unique held || alone) in
    let kept_part = is_invalid st || (not (is_invalid held) || (alone || takes_shared k)) in
    let early = and_parts (unique_part && kept_part && implies (is_dirty st) (is_dirty held || (pass || alone))) _ all in
    let late = and_parts (implies (pass || is_dirty held || is_make_unique k) (is_dirty st)) _ early.1 in
    let two = and_parts (unique_part && kept_part) _ early.0 in
    let one = and_parts unique_part kept_part two.0 in
    record {
      unique = λ u. or_cases (is_unique held) alone (implies-at (is_unique st) _ one.0 u);
      kept = elim (or_cases (is_invalid st) _ one.1) [
        | inl none ↦ inl (is_invalid-is st none)
        | inr some ↦ elim (or_cases (not (is_invalid held)) _ some) [
          | inl was ↦ inr (inl (not-true (is_invalid held) was))
          | inr taken ↦ inr (inr (or_cases alone (takes_shared k) taken))
        ]
      ];
      dirty = λ d. elim (or_cases (is_dirty held) _ (implies-at (is_dirty st) _ two.1 d)) [
        | inl was ↦ inl was
        | inr came ↦ inr (or_cases pass alone came)
      ];
      keeps_dirt = λ d. implies-at (pass || is_dirty held || is_make_unique k) (is_dirty st) late.0 d;
      gains = λ i v. elim (or_cases (is_invalid st || not (is_invalid held)) (is_fetch k || is_make_unique k) late.1) [
        | inl less ↦ let bad : false ≡ true = rw (v, i) at less in cc
        | inr gained ↦ or_cases (is_fetch k) (is_make_unique k) gained
      ];
    }
