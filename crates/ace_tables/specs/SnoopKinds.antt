-- The snoop that a transaction causes (Arm IHI 0022E, C5.1).
use Rattle.std.specs.Prelude.{Option, Some, None}
use Rattle.ace_codes.specs.declared.kind.ArKind.{ArKind}
use Rattle.ace_codes.specs.declared.kind.ArKind.TheVariants as read
use Rattle.ace_codes.specs.declared.kind.AwKind.{AwKind}
use Rattle.ace_codes.specs.declared.kind.AwKind.TheVariants as write
use Rattle.ace_codes.specs.declared.kind.SnoopKind.{SnoopKind}
use Rattle.ace_codes.specs.declared.kind.SnoopKind.TheVariants as snoop

-- of a read; None where it causes no snoop of a line
abbrev pub snoop_of_read : ArKind → Option SnoopKind
snoop_of_read read.ReadOnce = Some snoop.ReadOnce
snoop_of_read read.ReadShared = Some snoop.ReadShared
snoop_of_read read.ReadClean = Some snoop.ReadClean
snoop_of_read read.ReadNotSharedDirty = Some snoop.ReadNotSharedDirty
snoop_of_read read.ReadUnique = Some snoop.ReadUnique
snoop_of_read read.CleanShared = Some snoop.CleanShared
snoop_of_read read.CleanInvalid = Some snoop.CleanInvalid
snoop_of_read read.CleanUnique = Some snoop.CleanInvalid
snoop_of_read read.MakeInvalid = Some snoop.MakeInvalid
snoop_of_read read.MakeUnique = Some snoop.MakeInvalid
snoop_of_read _ = None

-- of a write
abbrev pub snoop_of_write : AwKind → Option SnoopKind
snoop_of_write write.WriteUnique = Some snoop.CleanInvalid
snoop_of_write write.WriteLineUnique = Some snoop.MakeInvalid
snoop_of_write _ = None
