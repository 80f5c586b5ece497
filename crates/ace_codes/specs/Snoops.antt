-- The kinds of the snoop address channel (Arm IHI 0022E, C3.6.1).
use Rattle.std.specs.Prelude.{ℕ, ◌==◌, List, [], ◌∷◌, Option, find}
use Rattle.ace_codes.specs.declared.kind.ArKind.TheVariants as read
use Rattle.ace_codes.specs.declared.kind.SnoopKind.{SnoopKind}
use Rattle.ace_codes.specs.declared.kind.SnoopKind.TheVariants.{ReadOnce, ReadShared, ReadClean, ReadNotSharedDirty, ReadUnique, CleanShared, CleanInvalid, MakeInvalid, DvmComplete, DvmMessage}
use Rattle.ace_codes.specs.Reads.{ar_code}

-- the ACSNOOP of a kind: the ARSNOOP of the read of the same name
abbrev pub ac_code : SnoopKind → ℕ
ac_code ReadOnce = ar_code read.ReadOnce
ac_code ReadShared = ar_code read.ReadShared
ac_code ReadClean = ar_code read.ReadClean
ac_code ReadNotSharedDirty = ar_code read.ReadNotSharedDirty
ac_code ReadUnique = ar_code read.ReadUnique
ac_code CleanShared = ar_code read.CleanShared
ac_code CleanInvalid = ar_code read.CleanInvalid
ac_code MakeInvalid = ar_code read.MakeInvalid
ac_code DvmComplete = ar_code read.DvmComplete
ac_code DvmMessage = ar_code read.DvmMessage

-- all kinds
abbrev pub snoops : List SnoopKind
snoops =
    ReadOnce ∷ ReadShared ∷ ReadClean ∷ ReadNotSharedDirty ∷ ReadUnique
    ∷ CleanShared ∷ CleanInvalid ∷ MakeInvalid
    ∷ DvmComplete ∷ DvmMessage ∷ []

-- the kind with this code
unfoldable pub ac_kind_of : ℕ → Option SnoopKind
ac_kind_of code = find (λ kind. code == ac_code kind) snoops
