-- The kinds of the read address channel (Arm IHI 0022E, C3.1.3). Our choice: that maintenance is in
-- domains 1 and 2 alone; that every kind but a barrier takes bar 2 as well as bar 0; the domains of
-- DVM; and the code, the domains and the bars of a barrier.
use Rattle.std.specs.Prelude.{ℕ, List, [], ◌∷◌, Option, find}
use Rattle.ace_codes.specs.declared.kind.ArKind.{ArKind}
use Rattle.ace_codes.specs.declared.kind.ArKind.TheVariants.{ReadNoSnoop, ReadOnce, ReadShared, ReadClean, ReadNotSharedDirty, ReadUnique, CleanUnique, MakeUnique, CleanShared, CleanInvalid, MakeInvalid, DvmComplete, DvmMessage, Barrier}
use Rattle.ace_codes.specs.Places.{Place, is_at, is_normal, is_barrier, is_unshared, is_shareable, is_domain}

-- ARBAR, ARDOMAIN and ARSNOOP of each kind
abbrev pub read_place : ArKind → Place
read_place ReadNoSnoop = (is_normal, is_unshared, 0)
read_place ReadOnce = (is_normal, is_shareable, 0)
read_place ReadShared = (is_normal, is_shareable, 1)
read_place ReadClean = (is_normal, is_shareable, 2)
read_place ReadNotSharedDirty = (is_normal, is_shareable, 3)
read_place ReadUnique = (is_normal, is_shareable, 7)
read_place CleanShared = (is_normal, is_shareable, 8)
read_place CleanInvalid = (is_normal, is_shareable, 9)
read_place CleanUnique = (is_normal, is_shareable, 11)
read_place MakeUnique = (is_normal, is_shareable, 12)
read_place MakeInvalid = (is_normal, is_shareable, 13)
read_place DvmComplete = (is_normal, is_shareable, 14)
read_place DvmMessage = (is_normal, is_shareable, 15)
read_place Barrier = (is_barrier, is_domain, 0)

-- the ARSNOOP of a kind
abbrev pub ar_code : ArKind → ℕ
ar_code kind = (read_place kind).2

-- all kinds
abbrev pub reads : List ArKind
reads =
    ReadNoSnoop ∷ ReadOnce ∷ ReadShared ∷ ReadClean ∷ ReadNotSharedDirty ∷ ReadUnique
    ∷ CleanShared ∷ CleanInvalid ∷ CleanUnique ∷ MakeUnique ∷ MakeInvalid
    ∷ DvmComplete ∷ DvmMessage ∷ Barrier ∷ []

-- the kind that stands at these numbers
unfoldable pub ar_kind_of : ℕ → ℕ → ℕ → Option ArKind
ar_kind_of code domain bar = find (λ kind. is_at (read_place kind) code domain bar) reads
