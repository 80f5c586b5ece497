-- The states in which a master ends its transactions: of those that the table allows the first of UD, UC, SD, SC and I.
use Rattle.std.proofs.Common.{◌≡◌, Bool, true, false, not, ◌&&◌, List, [], find, Option, Some, None, unwrap_or, refl, sym, ap, ◌∙◌}
use Rattle.std.specs.Option.{option_map}
use Rattle.ace_codes.specs.declared.kind.ArKind.{ArKind}
use Rattle.ace_codes.specs.declared.kind.ArKind.TheVariants as read
use Rattle.ace_codes.specs.declared.kind.AwKind.{AwKind}
use Rattle.ace_codes.specs.declared.kind.AwKind.TheVariants as write
use Rattle.ace_codes.specs.declared.state.LineState.{LineState}
use Rattle.ace_codes.specs.declared.state.LineState.TheVariants.{I}
use Rattle.ace_event.specs.declared.header.Header.{Header}
use Rattle.ace_tables.specs.EndStates.{end_states_of_read, end_states_of_write, is_fetch}
use Rattle.ace_tables.specs.States.{is_among, is_dirty, is_invalid, is_unique}
use Rattle.ace_model.specs.declared.transactions.Transaction.{Transaction}
use Rattle.ace_model.specs.Exclusives.{has_failed}
use Rattle.ace_model.specs.ReadRules.{held_of}
use Rattle.ace_model.specs.Trace.{Trace, is_some_and}
use Rattle.ace_model.specs.Transactions.{read_kind, write_kind}
use Rattle.ace_model.proofs.Tables.States.{each_state}
use Rattle.ace_runs.specs.MasterSteps.{end_of, end_order, is_told_dirty, is_told_shared}
use Rattle.ace_model.proofs.General.Options.{Some-injective}

-- ---- the table ---------------------------------------------------------------------------------------

-- the first of the states
abbrev pub first_of : List LineState → Option LineState
first_of states = find (λ st. is_among st states) end_order

-- of a fetch of a line that isn't held
fetch-ends : (k : ArKind) (shared pass failed : Bool) → is_fetch k ≡ true → is_some_and (first_of (end_states_of_read k I shared pass failed)) is_invalid ≡ false
fetch-ends read.ReadShared false false failed f = refl
fetch-ends read.ReadShared false true failed f = refl
fetch-ends read.ReadShared true false failed f = refl
fetch-ends read.ReadShared true true failed f = refl
fetch-ends read.ReadClean false false failed f = refl
fetch-ends read.ReadClean false true failed f = refl
fetch-ends read.ReadClean true false failed f = refl
fetch-ends read.ReadClean true true failed f = refl
fetch-ends read.ReadNotSharedDirty false false failed f = refl
fetch-ends read.ReadNotSharedDirty false true failed f = refl
fetch-ends read.ReadNotSharedDirty true false failed f = refl
fetch-ends read.ReadNotSharedDirty true true failed f = refl
fetch-ends read.ReadUnique false false failed f = refl
fetch-ends read.ReadUnique false true failed f = refl
fetch-ends read.ReadUnique true false failed f = refl
fetch-ends read.ReadUnique true true failed f = refl
fetch-ends k shared pass failed f = cc

abbrev isn't_unique : LineState → Bool
isn't_unique st = not (is_unique st)

read-unique-ends : (shared pass failed : Bool) → is_some_and (first_of (end_states_of_read read.ReadUnique I shared pass failed)) isn't_unique ≡ false
read-unique-ends false false failed = refl
read-unique-ends false true failed = refl
read-unique-ends true false failed = refl
read-unique-ends true true failed = refl

make-unique-ends : (held : LineState) (shared pass failed : Bool) → is_some_and (first_of (end_states_of_read read.MakeUnique held shared pass failed)) isn't_unique ≡ false
make-unique-ends held false false failed = each_state (λ held. is_some_and (first_of (end_states_of_read read.MakeUnique held false false failed)) isn't_unique ≡ false) refl refl refl refl refl held
make-unique-ends held false true failed = each_state (λ held. is_some_and (first_of (end_states_of_read read.MakeUnique held false true failed)) isn't_unique ≡ false) refl refl refl refl refl held
make-unique-ends held true false failed = each_state (λ held. is_some_and (first_of (end_states_of_read read.MakeUnique held true false failed)) isn't_unique ≡ false) refl refl refl refl refl held
make-unique-ends held true true failed = each_state (λ held. is_some_and (first_of (end_states_of_read read.MakeUnique held true true failed)) isn't_unique ≡ false) refl refl refl refl refl held

-- shared: neither alone nor gone
abbrev is_only_shared : LineState → Bool
is_only_shared st = not (is_unique st) && not (is_invalid st)

clean-unique-ends : (held : LineState) (shared pass : Bool) → is_some_and (first_of (end_states_of_read read.CleanUnique held shared pass false)) is_only_shared ≡ false
clean-unique-ends held false false = each_state (λ held. is_some_and (first_of (end_states_of_read read.CleanUnique held false false false)) is_only_shared ≡ false) refl refl refl refl refl held
clean-unique-ends held false true = each_state (λ held. is_some_and (first_of (end_states_of_read read.CleanUnique held false true false)) is_only_shared ≡ false) refl refl refl refl refl held
clean-unique-ends held true false = each_state (λ held. is_some_and (first_of (end_states_of_read read.CleanUnique held true false false)) is_only_shared ≡ false) refl refl refl refl refl held
clean-unique-ends held true true = each_state (λ held. is_some_and (first_of (end_states_of_read read.CleanUnique held true true false)) is_only_shared ≡ false) refl refl refl refl refl held

write-clean-ends : (held : LineState) → is_some_and (first_of (end_states_of_write write.WriteClean held)) is_dirty ≡ false
write-clean-ends = each_state (λ held. is_some_and (first_of (end_states_of_write write.WriteClean held)) is_dirty ≡ false) refl refl refl refl refl

-- ---- transactions ------------------------------------------------------------------------------------

of-some : (o : Option LineState) (test : LineState → Bool) (st : LineState) → is_some_and o test ≡ false → o ≡ Some st → test st ≡ false
of-some o test st none is = sym (ap (λ v. is_some_and v test) is) ∙ none

module _ (h : Header) (past : Trace) (x : Transaction) where
  -- the state in which a read ends, a write
  pub end-of-read : (k : ArKind) → read_kind x ≡ Some k
      → end_of h past x ≡ first_of (end_states_of_read k (held_of h past x) (is_told_shared past x) (is_told_dirty past x) (has_failed past x))
  end-of-read k is =
      ap (λ o. first_of (unwrap_or (option_map (λ k. end_states_of_read k (held_of h past x) (is_told_shared past x) (is_told_dirty past x) (has_failed past x)) o)
      (unwrap_or (option_map (λ k. end_states_of_write k (held_of h past x)) (write_kind x)) []))) is

  pub end-of-write : (k : AwKind) → read_kind x ≡ None → write_kind x ≡ Some k → end_of h past x ≡ first_of (end_states_of_write k (held_of h past x))
  end-of-write k none is =
      ap (λ o. first_of (unwrap_or (option_map (λ k. end_states_of_read k (held_of h past x) (is_told_shared past x) (is_told_dirty past x) (has_failed past x)) o)
      (unwrap_or (option_map (λ k. end_states_of_write k (held_of h past x)) (write_kind x)) []))) none
      ∙ ap (λ o. first_of (unwrap_or (option_map (λ k. end_states_of_write k (held_of h past x)) o) [])) is

module _ (h : Header) (past : Trace) (x : Transaction) (st : LineState) (end : end_of h past x ≡ Some st) where
  pub read-end : (k : ArKind) → read_kind x ≡ Some k
      → first_of (end_states_of_read k (held_of h past x) (is_told_shared past x) (is_told_dirty past x) (has_failed past x)) ≡ Some st
  read-end k is = sym (end-of-read h past x k is) ∙ end

  pub write-end : (k : AwKind) → read_kind x ≡ None → write_kind x ≡ Some k → first_of (end_states_of_write k (held_of h past x)) ≡ Some st
  write-end k none is = sym (end-of-write h past x k none is) ∙ end

  -- a fetch of a line that isn't held ends with the line
  pub fetch-end : (k : ArKind) → read_kind x ≡ Some k → is_fetch k ≡ true → held_of h past x ≡ I → is_invalid st ≡ false
  fetch-end k is fetch held =
      of-some _ is_invalid st (fetch-ends k (is_told_shared past x) (is_told_dirty past x) (has_failed past x) fetch)
      (ap (λ v. first_of (end_states_of_read k v (is_told_shared past x) (is_told_dirty past x) (has_failed past x))) (sym held) ∙ read-end k is)

  pub read-unique-end : read_kind x ≡ Some read.ReadUnique → held_of h past x ≡ I → not (is_unique st) ≡ false
  read-unique-end is held =
      of-some _ isn't_unique st (read-unique-ends (is_told_shared past x) (is_told_dirty past x) (has_failed past x))
      (ap (λ v. first_of (end_states_of_read read.ReadUnique v (is_told_shared past x) (is_told_dirty past x) (has_failed past x))) (sym held) ∙ read-end read.ReadUnique is)

  pub make-unique-end : read_kind x ≡ Some read.MakeUnique → not (is_unique st) ≡ false
  make-unique-end is =
      of-some _ isn't_unique st (make-unique-ends (held_of h past x) (is_told_shared past x) (is_told_dirty past x) (has_failed past x)) (read-end read.MakeUnique is)

  -- a CleanUnique that didn't fail ends with the line alone, or without it
  pub clean-unique-end : read_kind x ≡ Some read.CleanUnique → has_failed past x ≡ false → (not (is_unique st) && not (is_invalid st)) ≡ false
  clean-unique-end is passed =
      of-some _ is_only_shared st (clean-unique-ends (held_of h past x) (is_told_shared past x) (is_told_dirty past x))
      (ap (λ b. first_of (end_states_of_read read.CleanUnique (held_of h past x) (is_told_shared past x) (is_told_dirty past x) b)) (sym passed) ∙ read-end read.CleanUnique is)

  pub write-back-end : read_kind x ≡ None → write_kind x ≡ Some write.WriteBack → st ≡ I
  write-back-end none is = let e : Some I ≡ Some st = write-end write.WriteBack none is in sym (Some-injective I st e)

  pub write-clean-end : read_kind x ≡ None → write_kind x ≡ Some write.WriteClean → is_dirty st ≡ false
  write-clean-end none is = of-some _ is_dirty st (write-clean-ends (held_of h past x)) (write-end write.WriteClean none is)
