-- The words for what an event is about: the kinds of transactions and snoops, and ports.
use Rattle.std.specs.Prelude.{ℕ, List, ◌++◌, codes, decimal}
use Rattle.ace_codes.specs.declared.kind.ArKind.{ArKind}
use Rattle.ace_codes.specs.declared.kind.ArKind.TheVariants as read
use Rattle.ace_codes.specs.declared.kind.AwKind.{AwKind}
use Rattle.ace_codes.specs.declared.kind.AwKind.TheVariants as write
use Rattle.ace_codes.specs.declared.kind.SnoopKind.{SnoopKind}
use Rattle.ace_codes.specs.declared.kind.SnoopKind.TheVariants as snoop

-- what a transaction on the read channel is called
abbrev pub read_word : ArKind → List ℕ
read_word read.ReadNoSnoop = codes "ReadNoSnoop"
read_word read.ReadOnce = codes "ReadOnce"
read_word read.ReadShared = codes "ReadShared"
read_word read.ReadClean = codes "ReadClean"
read_word read.ReadNotSharedDirty = codes "ReadNotSharedDirty"
read_word read.ReadUnique = codes "ReadUnique"
read_word read.CleanUnique = codes "CleanUnique"
read_word read.MakeUnique = codes "MakeUnique"
read_word read.CleanShared = codes "CleanShared"
read_word read.CleanInvalid = codes "CleanInvalid"
read_word read.MakeInvalid = codes "MakeInvalid"
read_word read.DvmComplete = codes "DVM Complete"
read_word read.DvmMessage = codes "DVM Message"
read_word read.Barrier = codes "Barrier"

-- what one on the write channel is called
abbrev pub write_word : AwKind → List ℕ
write_word write.WriteNoSnoop = codes "WriteNoSnoop"
write_word write.WriteUnique = codes "WriteUnique"
write_word write.WriteLineUnique = codes "WriteLineUnique"
write_word write.WriteClean = codes "WriteClean"
write_word write.WriteBack = codes "WriteBack"
write_word write.Evict = codes "Evict"
write_word write.WriteEvict = codes "WriteEvict"
write_word write.Barrier = codes "Barrier"

-- what a snoop is called
abbrev pub snoop_word : SnoopKind → List ℕ
snoop_word snoop.ReadOnce = codes "ReadOnce"
snoop_word snoop.ReadShared = codes "ReadShared"
snoop_word snoop.ReadClean = codes "ReadClean"
snoop_word snoop.ReadNotSharedDirty = codes "ReadNotSharedDirty"
snoop_word snoop.ReadUnique = codes "ReadUnique"
snoop_word snoop.CleanShared = codes "CleanShared"
snoop_word snoop.CleanInvalid = codes "CleanInvalid"
snoop_word snoop.MakeInvalid = codes "MakeInvalid"
snoop_word snoop.DvmComplete = codes "DVM Complete"
snoop_word snoop.DvmMessage = codes "DVM Message"

-- what a port is called
abbrev pub port_words : ℕ → List ℕ
port_words port = codes "port " ++ decimal port
