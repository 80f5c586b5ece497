use Rattle.std.proofs.Common.{refl}
use Rattle.ace_chart_rows.proofs.collect.row_of.Goals as goal

pub returns : goal.returns
returns c most h past b s stands left same tells =
    rw (
      c.next_number-number.ensures most h past b stands,
      c.burst_of.ensures,
      c.next_transfers.ensures most h past b stands,
      c.version_of.ensures,
      tells,
      c.next_serves.ensures most h past b stands,
      c.look_now.ensures most h past b stands same,
      same,
      left,
    ) refl
