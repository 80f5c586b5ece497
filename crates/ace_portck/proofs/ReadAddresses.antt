-- The read that an AR issues.
use Rattle.std.proofs.Common.{◌≡◌, ℕ, Bool, true, false, Some, refl}
use Rattle.ace_portck.proofs.Terms.{ArKind, ar_kind_of, Read, is_line_read, Transaction}
use Rattle.ace_portck.proofs.LineReads.{IsUnfailingRead}

-- the read that an AR with these fields issues
abbrev pub read_of : ℕ → ℕ → ℕ → ℕ → ℕ → ℕ → ℕ → Bool → Transaction
read_of place p i addr snoop dom bar lock = record { place = place; port = p; chan = Read; id = i; addr = addr; snoop = snoop; dom = dom; bar = bar; lock = lock }

-- it is no exclusive store where its lock is 0
pub unlocked-unfailing : (place p i addr snoop dom bar : ℕ) (k : ArKind) → ar_kind_of snoop dom bar ≡ Some k → is_line_read k ≡ true
    → IsUnfailingRead (read_of place p i addr snoop dom bar false) k
unlocked-unfailing place p i addr snoop dom bar k kind line = record { chan = refl; kind = kind; line = line; unfailing = refl }
