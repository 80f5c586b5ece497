-- The bits of RRESP (Arm IHI 0022E, C3.2.1) and of CRRESP (C3.7).
use Rattle.std.specs.Prelude.{ℕ, Bool, ◌==◌, ◌%◌, bit_and}

-- CRRESP[0], DataTransfer
abbrev pub transfers_data : ℕ → Bool
transfers_data resp = bit_and resp 1 == 1

-- CRRESP[1], Error
abbrev pub has_error : ℕ → Bool
has_error resp = bit_and resp 2 == 2

-- RRESP[2] and CRRESP[2], PassDirty
abbrev pub passes_dirty : ℕ → Bool
passes_dirty resp = bit_and resp 4 == 4

-- RRESP[3] and CRRESP[3], IsShared
abbrev pub is_shared : ℕ → Bool
is_shared resp = bit_and resp 8 == 8

-- CRRESP[4], WasUnique
abbrev pub was_unique : ℕ → Bool
was_unique resp = bit_and resp 16 == 16

-- the low two bits of RRESP and BRESP: 0 OKAY, 1 EXOKAY, 2 SLVERR, 3 DECERR
abbrev pub low_bits : ℕ → ℕ
low_bits resp = resp % 4
