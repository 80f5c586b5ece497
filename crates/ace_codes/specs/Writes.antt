-- The kinds of the write address channel (Arm IHI 0022E, C3.1.3). Our choice: that memory updates
-- and Evict are in domains 1 and 2 alone; that every kind but a barrier takes bar 2 as well as bar
-- 0; and the code, the domains and the bars of a barrier.
use Rattle.std.specs.Prelude.{ℕ, List, [], ◌∷◌, Option, find}
use Rattle.ace_codes.specs.declared.kind.AwKind.{AwKind}
use Rattle.ace_codes.specs.declared.kind.AwKind.TheVariants.{WriteNoSnoop, WriteUnique, WriteLineUnique, WriteClean, WriteBack, Evict, WriteEvict, Barrier}
use Rattle.ace_codes.specs.Places.{Place, is_at, is_normal, is_barrier, is_unshared, is_shareable, is_domain}

-- AWBAR, AWDOMAIN and AWSNOOP of each kind
abbrev pub write_place : AwKind → Place
write_place WriteNoSnoop = (is_normal, is_unshared, 0)
write_place WriteUnique = (is_normal, is_shareable, 0)
write_place WriteLineUnique = (is_normal, is_shareable, 1)
write_place WriteClean = (is_normal, is_shareable, 2)
write_place WriteBack = (is_normal, is_shareable, 3)
write_place Evict = (is_normal, is_shareable, 4)
write_place WriteEvict = (is_normal, is_shareable, 5)
write_place Barrier = (is_barrier, is_domain, 0)

-- the AWSNOOP of a kind
abbrev pub aw_code : AwKind → ℕ
aw_code kind = (write_place kind).2

-- all kinds
abbrev pub writes : List AwKind
writes =
    WriteNoSnoop ∷ WriteUnique ∷ WriteLineUnique ∷ WriteClean ∷ WriteBack
    ∷ Evict ∷ WriteEvict ∷ Barrier ∷ []

-- the kind that stands at these numbers
unfoldable pub aw_kind_of : ℕ → ℕ → ℕ → Option AwKind
aw_kind_of code domain bar = find (λ kind. is_at (write_place kind) code domain bar) writes
