-- What the kinds of transactions and snoops have in common.
use Rattle.std.specs.Prelude.{ℕ, Bool, true, false, if◌then◌else◌}
use Rattle.ace_codes.specs.declared.kind.ArKind.{ArKind}
use Rattle.ace_codes.specs.declared.kind.ArKind.TheVariants as read
use Rattle.ace_codes.specs.declared.kind.AwKind.{AwKind}
use Rattle.ace_codes.specs.declared.kind.AwKind.TheVariants as write
use Rattle.ace_codes.specs.declared.kind.SnoopKind.{SnoopKind}
use Rattle.ace_codes.specs.declared.kind.SnoopKind.TheVariants as snoop

-- line transactions: all kinds but barriers and DVM
abbrev pub is_line_read : ArKind → Bool
is_line_read read.Barrier = false
is_line_read read.DvmComplete = false
is_line_read read.DvmMessage = false
is_line_read _ = true

abbrev pub is_line_write : AwKind → Bool
is_line_write write.Barrier = false
is_line_write _ = true

abbrev pub is_line_snoop : SnoopKind → Bool
is_line_snoop snoop.DvmComplete = false
is_line_snoop snoop.DvmMessage = false
is_line_snoop _ = true

-- reads of a line, which have four R transfers; the others are dataless and have one
abbrev pub reads_a_line : ArKind → Bool
reads_a_line read.ReadNoSnoop = true
reads_a_line read.ReadOnce = true
reads_a_line read.ReadShared = true
reads_a_line read.ReadClean = true
reads_a_line read.ReadNotSharedDirty = true
reads_a_line read.ReadUnique = true
reads_a_line _ = false

-- how many R transfers
abbrev pub beats_of : ArKind → ℕ
beats_of k = if reads_a_line k then 4 else 1

-- memory updates
abbrev pub is_update : AwKind → Bool
is_update write.WriteBack = true
is_update write.WriteClean = true
is_update write.WriteEvict = true
is_update _ = false

-- writes with data: all kinds but Evict and barriers
abbrev pub has_write_data : AwKind → Bool
has_write_data write.Evict = false
has_write_data write.Barrier = false
has_write_data _ = true

-- writes of shared lines that bypass the caches of the port
abbrev pub is_unique_write : AwKind → Bool
is_unique_write write.WriteUnique = true
is_unique_write write.WriteLineUnique = true
is_unique_write _ = false

abbrev pub is_write_line_unique : AwKind → Bool
is_write_line_unique write.WriteLineUnique = true
is_write_line_unique _ = false

abbrev pub is_evict : AwKind → Bool
is_evict write.Evict = true
is_evict _ = false

-- transactions of lines that no cache holds
abbrev pub is_no_snoop_read : ArKind → Bool
is_no_snoop_read read.ReadNoSnoop = true
is_no_snoop_read _ = false

abbrev pub is_no_snoop_write : AwKind → Bool
is_no_snoop_write write.WriteNoSnoop = true
is_no_snoop_write _ = false

abbrev pub is_read_barrier : ArKind → Bool
is_read_barrier read.Barrier = true
is_read_barrier _ = false

abbrev pub is_write_barrier : AwKind → Bool
is_write_barrier write.Barrier = true
is_write_barrier _ = false

abbrev pub is_dvm_message : ArKind → Bool
is_dvm_message read.DvmMessage = true
is_dvm_message _ = false

abbrev pub is_dvm_complete : ArKind → Bool
is_dvm_complete read.DvmComplete = true
is_dvm_complete _ = false

abbrev pub is_message_snoop : SnoopKind → Bool
is_message_snoop snoop.DvmMessage = true
is_message_snoop _ = false

abbrev pub is_complete_snoop : SnoopKind → Bool
is_complete_snoop snoop.DvmComplete = true
is_complete_snoop _ = false

-- writes that the interconnect grants a line: the line transactions but memory updates and Evict
abbrev pub is_granted_write : AwKind → Bool
is_granted_write write.WriteNoSnoop = true
is_granted_write write.WriteUnique = true
is_granted_write write.WriteLineUnique = true
is_granted_write _ = false

-- what an ACE-Lite port may issue (our choice)
abbrev pub is_lite_read : ArKind → Bool
is_lite_read read.ReadNoSnoop = true
is_lite_read read.ReadOnce = true
is_lite_read read.CleanShared = true
is_lite_read read.CleanInvalid = true
is_lite_read read.MakeInvalid = true
is_lite_read read.Barrier = true
is_lite_read _ = false

abbrev pub is_lite_write : AwKind → Bool
is_lite_write write.WriteNoSnoop = true
is_lite_write write.WriteUnique = true
is_lite_write write.WriteLineUnique = true
is_lite_write write.Barrier = true
is_lite_write _ = false

-- reads that may be exclusive (Arm IHI 0022E, C9)
abbrev pub may_be_exclusive : ArKind → Bool
may_be_exclusive read.ReadShared = true
may_be_exclusive read.ReadClean = true
may_be_exclusive read.CleanUnique = true
may_be_exclusive _ = false

abbrev pub is_clean_unique : ArKind → Bool
is_clean_unique read.CleanUnique = true
is_clean_unique _ = false

abbrev pub is_make_unique : ArKind → Bool
is_make_unique read.MakeUnique = true
is_make_unique _ = false

abbrev pub is_make_invalid : ArKind → Bool
is_make_invalid read.MakeInvalid = true
is_make_invalid _ = false

abbrev pub is_read_not_shared_dirty : ArKind → Bool
is_read_not_shared_dirty read.ReadNotSharedDirty = true
is_read_not_shared_dirty _ = false

-- reads that may take the dirty data that a snooped port passes on
abbrev pub takes_passed_data : ArKind → Bool
takes_passed_data read.ReadShared = true
takes_passed_data read.ReadNotSharedDirty = true
takes_passed_data read.ReadUnique = true
takes_passed_data _ = false

-- reads whose response may say IsShared
abbrev pub may_be_shared : ArKind → Bool
may_be_shared read.ReadOnce = true
may_be_shared read.ReadShared = true
may_be_shared read.ReadClean = true
may_be_shared read.ReadNotSharedDirty = true
may_be_shared read.CleanShared = true
may_be_shared _ = false
