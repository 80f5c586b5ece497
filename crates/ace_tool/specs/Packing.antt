-- Files that are compressed.
use Rattle.std.specs.Prelude.{ℕ, List, [], ◌∷◌, Option, None, Some, codes, take, bytes_eq, if◌then◌else◌}
use Rattle.ace_tool.specs.declared.packing.Packing.{Packing}
use Rattle.ace_tool.specs.declared.packing.Packing.TheVariants.{Gzip, Zstd, Xz}

-- the bytes by which such a file begins
abbrev pub magic_of : Packing → List ℕ
magic_of Gzip = 0x1f ∷ 0x8b ∷ []
magic_of Zstd = 0x28 ∷ 0xb5 ∷ 0x2f ∷ 0xfd ∷ []
magic_of Xz = 0xfd ∷ 0x37 ∷ 0x7a ∷ []

-- how a file of these bytes is compressed
abbrev pub packing_of : List ℕ → Option Packing
packing_of bytes =
    if bytes_eq (take 2 bytes) (magic_of Gzip) then Some Gzip
    else if bytes_eq (take 4 bytes) (magic_of Zstd) then Some Zstd
    else if bytes_eq (take 3 bytes) (magic_of Xz) then Some Xz else None

-- what is said before its name
abbrev pub advice_of : Packing → List ℕ
advice_of Gzip = codes "compressed; use: gzip -dc "
advice_of Zstd = codes "compressed; use: zstd -dc "
advice_of Xz = codes "compressed; use: xz -dc "
