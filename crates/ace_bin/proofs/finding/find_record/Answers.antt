use Rattle.std.proofs.Common.{arith}
use Rattle.ace_bin.specs.Window.{held}
use Rattle.ace_bin.proofs.Taken.{no_record_is_short}
use Rattle.ace_bin.proofs.finding.find_record.Goals as goal

pub more-requires : goal.more-requires
more-requires g c = no_record_is_short c.args.version (held c.pieces.window) (rw c.front.ensures at c.in-Cut.ensures)

pub pieces-smaller : goal.pieces-smaller
pieces-smaller g c =
    omega (
      arith,
      c.in-Ok-true.ensures.more c.in-Ok-true.field-0-test,
      no_record_is_short c.args.version (held c.pieces.window) (rw c.front.ensures at c.in-Cut.ensures),
    )
