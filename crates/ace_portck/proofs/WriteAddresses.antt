-- What the AW of a line write issues.
use Rattle.std.proofs.Common.{◌≡◌, ℕ, true, false, Some, refl}
use Rattle.ace_portck.proofs.Terms.{AwKind, aw_kind_of, is_barrier_half, is_line_write, Trace, line_write_kind}
use Rattle.ace_model.proofs.General.Options.{option_filter-is}
use Rattle.ace_model.proofs.Trace.Outstanding.{write_issued}
use Rattle.ace_portck.proofs.LineWrites.{line-no_barrier}

module _ (past : Trace) (p i addr snoop dom bar : ℕ) (k : AwKind) (is : line_write_kind snoop dom bar ≡ Some k) where
  pub write-kind : aw_kind_of snoop dom bar ≡ Some k
  write-kind = (option_filter-is is_line_write (aw_kind_of snoop dom bar) k is).0

  of_line : is_line_write k ≡ true
  of_line = (option_filter-is is_line_write (aw_kind_of snoop dom bar) k is).1

  -- what it issues is no half of a barrier
  pub write-no_half : is_barrier_half (write_issued past p i addr snoop dom bar) ≡ false
  write-no_half = rw (write-kind, line-no_barrier k of_line) refl
