-- What the kinds of transactions say of each other.
use Rattle.std.proofs.Common.{None, Some, ◌≡◌, ◌⊎◌, Bool, true, false, ◌||◌, refl, inl, inr, ◌≢◌, arith}
use Rattle.ace_model.proofs.Terms.{SnoopKind, is_line_read, is_no_snoop_read}
use Rattle.ace_model.proofs.Terms.{ArKind, AwKind, LineState, UC, UD, is_fetch, snoop_of_read, snoop_of_write, starts_write, is_invalid, is_dirty, is_some_and, reads_a_line, beats_of, is_lite_read}
use Rattle.ace_model.proofs.Terms.{is_clean_unique, is_make_invalid, is_make_unique, is_update, has_write_data, is_unique_write, is_no_snoop_write, is_write_line_unique, is_granted_write, is_line_write}
use Rattle.ace_codes.specs.declared.kind.ArKind.TheVariants as read
use Rattle.ace_codes.specs.declared.kind.AwKind.TheVariants as write
use Rattle.ace_model.proofs.Tables.States.{invalidates, shares_line}
use Rattle.ace_model.proofs.Tables.SnoopRows.{is_make_invalid_snoop}
use Rattle.ace_model.proofs.Tables.ReadEnds.{takes_alone, takes_shared}

-- A read that fetches a line to keep.
pub record Fetch (k : ArKind) : Type 0 where
  pub full : is_lite_read k ≡ false
  pub reads : reads_a_line k ≡ true
  pub beats : beats_of k ≡ 4
  pub cleans : is_clean_unique k ≡ false
  pub makes : is_make_unique k ≡ false
  pub discards : is_make_invalid k ≡ false
  pub snoops : is_some_and (snoop_of_read k) (λ s. invalidates s || shares_line s) ≡ true
  pub takes : (shared failed : Bool) → (takes_alone k shared failed ≡ true) ⊎ (takes_shared k ≡ true)

pub fetch_is : (k : ArKind) → is_fetch k ≡ true → Fetch k
fetch_is read.ReadClean f = record { full = refl; reads = refl; beats = refl; cleans = refl; makes = refl; discards = refl; snoops = refl; takes = λ s f. inr refl }
fetch_is read.ReadNotSharedDirty f = record { full = refl; reads = refl; beats = refl; cleans = refl; makes = refl; discards = refl; snoops = refl; takes = λ s f. inr refl }
fetch_is read.ReadShared f = record { full = refl; reads = refl; beats = refl; cleans = refl; makes = refl; discards = refl; snoops = refl; takes = λ s f. inr refl }
fetch_is read.ReadUnique f = record { full = refl; reads = refl; beats = refl; cleans = refl; makes = refl; discards = refl; snoops = refl; takes = λ s f. inl refl }
fetch_is k f = cc

-- every read has a transfer
pub beats_some : (k : ArKind) → beats_of k ≢ 0
beats_some read.ReadOnce e = absurd (omega (arith, e))
beats_some k e = absurd (omega (arith, e))

pub make_unique_is : (k : ArKind) → is_make_unique k ≡ true → k ≡ read.MakeUnique
make_unique_is read.MakeUnique e = refl
make_unique_is k e = cc

pub make_invalid_is : (k : ArKind) → is_make_invalid k ≡ true → k ≡ read.MakeInvalid
make_invalid_is read.MakeInvalid e = refl
make_invalid_is k e = cc

-- updates of a dirty line; writes that tell of a clean one
abbrev pub is_dirty_update : AwKind → Bool
is_dirty_update write.WriteBack = true
is_dirty_update write.WriteClean = true
is_dirty_update _ = false

abbrev pub is_clean_write : AwKind → Bool
is_clean_write write.WriteEvict = true
is_clean_write write.Evict = true
is_clean_write _ = false

-- a write of a line is an update of a dirty one, tells of a clean one, or is granted
pub write_kinds : (k : AwKind) → is_line_write k ≡ true → (is_dirty_update k || is_clean_write k || is_granted_write k) ≡ true
write_kinds write.Barrier e = cc
write_kinds k e = refl

-- the granted writes are those that store
pub granted_stores : (k : AwKind) → (is_unique_write k || is_no_snoop_write k) ≡ is_granted_write k
granted_stores write.WriteBack = refl
granted_stores k = refl

pub granted_data : (k : AwKind) → is_granted_write k ≡ true → has_write_data k ≡ true
granted_data write.WriteBack g = cc
granted_data k g = cc

pub granted_apart : (k : AwKind) → is_granted_write k ≡ true → is_update k ≡ false
granted_apart write.WriteBack g = cc
granted_apart k g = cc

-- only granted writes cause a snoop
pub snooping_granted : (k : AwKind) (s : SnoopKind) → snoop_of_write k ≡ Some s → is_granted_write k ≡ true
snooping_granted write.WriteUnique s e = refl
snooping_granted write.WriteLineUnique s e = refl
snooping_granted k s e = cc

pub update_data : (k : AwKind) → is_update k ≡ true → has_write_data k ≡ true
update_data write.WriteBack u = cc
update_data k u = cc

pub dirty_updates : (k : AwKind) → is_dirty_update k ≡ true → is_update k ≡ true
dirty_updates write.WriteBack d = cc
dirty_updates k d = cc

pub unique_write_snoops : (k : AwKind) → is_unique_write k ≡ true → is_some_and (snoop_of_write k) invalidates ≡ true
unique_write_snoops write.WriteBack u = cc
unique_write_snoops k u = cc

-- what makes the other copies invalid at once is a MakeUnique, a WriteLineUnique or a MakeInvalid
pub read_invalid : (k : ArKind) → is_some_and (snoop_of_read k) is_make_invalid_snoop ≡ true → (is_make_unique k || is_make_invalid k) ≡ true
read_invalid read.ReadOnce t = cc
read_invalid k t = cc

pub write_invalid : (k : AwKind) → is_some_and (snoop_of_write k) is_make_invalid_snoop ≡ true → is_write_line_unique k ≡ true
write_invalid write.WriteBack t = cc
write_invalid k t = cc

-- the states that writes start from
pub update_starts : (k : AwKind) (st : LineState) → is_update k ≡ true → starts_write k st ≡ true → is_invalid st ≡ false
update_starts write.WriteBack UD u s = cc
update_starts write.WriteClean UD u s = cc
update_starts write.WriteEvict UC u s = cc
update_starts k st u s = cc

pub dirty_starts : (k : AwKind) (st : LineState) → is_dirty_update k ≡ true → starts_write k st ≡ true → is_dirty st ≡ true
dirty_starts write.WriteBack UD u s = cc
dirty_starts write.WriteClean UD u s = cc
dirty_starts k st u s = cc

pub clean_starts : (k : AwKind) (st : LineState) → is_clean_write k ≡ true → starts_write k st ≡ true → is_dirty st ≡ false
clean_starts write.WriteEvict UC u s = cc
clean_starts write.Evict UC u s = cc
clean_starts k st u s = cc

-- the reads of a line
pub reads_line : (k : ArKind) → reads_a_line k ≡ true → is_line_read k ≡ true
reads_line read.DvmMessage t = cc
reads_line read.DvmComplete t = cc
reads_line read.Barrier t = cc
reads_line k t = refl

pub reads_apart : (k : ArKind) → reads_a_line k ≡ true → (is_make_unique k ≡ false) × (is_clean_unique k ≡ false) × (is_make_invalid k ≡ false)
reads_apart read.MakeUnique t = cc
reads_apart read.CleanUnique t = cc
reads_apart read.MakeInvalid t = cc
reads_apart k t = (refl, refl, refl)

pub reads_unsnooped : (k : ArKind) → reads_a_line k ≡ true → snoop_of_read k ≡ None → is_no_snoop_read k ≡ true
reads_unsnooped read.ReadNoSnoop t e = refl
reads_unsnooped k t e = cc
