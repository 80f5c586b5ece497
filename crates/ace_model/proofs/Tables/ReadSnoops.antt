-- The snoops that the kinds of reads cause, and what they leave to the ports that answer them.
use Rattle.std.proofs.Common.{◌≡◌, Bool, true, false, Some, refl, inl, inr, not, ◌||◌, ap, ◌⊎◌, None, ◌∙◌}
use Rattle.ace_model.proofs.Terms.{ArKind, SnoopKind, snoop_of_read, may_be_shared, is_clean_unique, LineState, ac_code, ac_kind_of, is_unique, takes_passed_data, Transaction, is_no_snoop_read, is_read, read_kind, write_kind, is_no_snoop, discards_data, is_make_invalid, snoop_of, snoop_kind_of}
use Rattle.ace_model.proofs.Tables.States.{shares_line, invalidates, Leaves}
use Rattle.ace_model.proofs.Tables.ReadEnds.{takes_alone, takes_shared}
use Rattle.ace_codes.specs.declared.kind.ArKind.TheVariants as read
use Rattle.ace_codes.specs.declared.kind.SnoopKind.TheVariants as snoop
use Rattle.std.proofs.lemmas.Bool.{or_cases, or_right, cases_Bool}
use Rattle.ace_model.proofs.Tables.Kinds.{make_invalid_is}
use Rattle.ace_model.proofs.General.Options.{is_some_and-is}

-- The snoop of a read that may end in a unique state leaves the other ports with nothing, or the response says IsShared where
-- it doesn't.
pub record TakesAlone (k : ArKind) (shared : Bool) : Type 0 where
  pub caused : SnoopKind
  pub is_caused : snoop_of_read k ≡ Some caused
  pub how : (invalidates caused ≡ true) ⊎ ((shared ≡ false) × (may_be_shared k ≡ true))

pub takes_alone_is : (k : ArKind) (shared failed : Bool) → takes_alone k shared failed ≡ true → TakesAlone k shared
takes_alone_is read.ReadUnique shared failed e = record { caused = snoop.ReadUnique; is_caused = refl; how = inl refl }
takes_alone_is read.MakeUnique shared failed e = record { caused = snoop.MakeInvalid; is_caused = refl; how = inl refl }
takes_alone_is read.CleanUnique shared failed e = record { caused = snoop.CleanInvalid; is_caused = refl; how = inl refl }
takes_alone_is read.ReadShared false failed e = record { caused = snoop.ReadShared; is_caused = refl; how = inr (refl, refl) }
takes_alone_is read.ReadClean false failed e = record { caused = snoop.ReadClean; is_caused = refl; how = inr (refl, refl) }
takes_alone_is read.ReadNotSharedDirty false failed e = record { caused = snoop.ReadNotSharedDirty; is_caused = refl; how = inr (refl, refl) }
takes_alone_is read.CleanShared false failed e = record { caused = snoop.CleanShared; is_caused = refl; how = inr (refl, refl) }
takes_alone_is k shared failed e = cc

pub failed_takes_none : (k : ArKind) (shared failed : Bool) → takes_alone k shared failed ≡ true → is_clean_unique k ≡ true → failed ≡ true → ⊥
failed_takes_none read.CleanUnique shared true t e f = cc
failed_takes_none read.CleanUnique shared false t e f = cc
failed_takes_none k shared failed t e f = cc

pub takes_shared_is : (k : ArKind) → takes_shared k ≡ true → (s : SnoopKind) × (snoop_of_read k ≡ Some s) × (shares_line s ≡ true)
takes_shared_is read.ReadShared e = (snoop.ReadShared, refl, refl)
takes_shared_is read.ReadClean e = (snoop.ReadClean, refl, refl)
takes_shared_is read.ReadNotSharedDirty e = (snoop.ReadNotSharedDirty, refl, refl)
takes_shared_is k e = cc

pub shared_not_clean_unique : (k : ArKind) → takes_shared k ≡ true → is_clean_unique k ≡ true → ⊥
shared_not_clean_unique read.CleanUnique t e = cc
shared_not_clean_unique k t e = cc

-- the kind with the code of a kind is that kind
pub kind_of_code : (k : SnoopKind) → ac_kind_of (ac_code k) ≡ Some k
unfolding ac_kind_of
kind_of_code snoop.DvmMessage = refl
kind_of_code k = refl

-- a read that takes passed data causes a snoop that leaves no unique state
pub passed_snoop : (k : ArKind) → takes_passed_data k ≡ true → (s : SnoopKind) × (snoop_of_read k ≡ Some s) × ((invalidates s || shares_line s) ≡ true)
passed_snoop read.ReadShared e = (snoop.ReadShared, refl, refl)
passed_snoop read.ReadNotSharedDirty e = (snoop.ReadNotSharedDirty, refl, refl)
passed_snoop read.ReadUnique e = (snoop.ReadUnique, refl, refl)
passed_snoop k e = cc

pub not_unique_after : (k : SnoopKind) (shared : Bool) (st : LineState) → (invalidates k || shares_line k) ≡ true → Leaves k shared st → is_unique st ≡ false
not_unique_after k shared st e leaves =
    elim (or_cases (invalidates k) (shares_line k) e) [
      | inl t ↦ ap is_unique (leaves.gone (or_right (not shared) (invalidates k) t))
      | inr t ↦ leaves.not_unique t
    ]

-- a read that brings a line to its port isn't NoSnoop
pub takes_snoops : (k : ArKind) (shared failed : Bool) → (takes_alone k shared failed ≡ true) ⊎ (takes_shared k ≡ true) → is_no_snoop_read k ≡ false
takes_snoops read.ReadNoSnoop shared failed (inl t) = cc
takes_snoops read.ReadNoSnoop shared failed (inr t) = cc
takes_snoops k shared failed t = refl

pub read_snoops : (x : Transaction) (k : ArKind) → read_kind x ≡ Some k → is_no_snoop_read k ≡ false → is_no_snoop x ≡ false
read_snoops x k is snoops =
    elim (cases_Bool (is_read x.chan)) [
      | inl reads ↦
          let none : write_kind x ≡ None = rw reads refl in
          rw (is, none) (rw snoops refl)
      | inr writes ↦ let bad : None ≡ Some k = rw writes at is in cc
    ]

-- what gives up data that are newer than memory is a MakeInvalid, and is snooped as one
pub discards_kind : (x : Transaction) → discards_data x ≡ true → read_kind x ≡ Some read.MakeInvalid
discards_kind x t =
    let k = is_some_and-is (read_kind x) is_make_invalid t in k.1 ∙ ap (λ v. Some v) (make_invalid_is k.0 k.2)

pub discards_causes : (x : Transaction) → discards_data x ≡ true → snoop_of x ≡ Some snoop.MakeInvalid
discards_causes x t = ap (λ o. snoop_kind_of o (write_kind x)) (discards_kind x t)
