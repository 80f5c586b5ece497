use Rattle.ace_portck.specs.Targets.{Recording}
use Rattle.ace_chart_rows.proofs.told.memory_now.Goals as goal

pub returns : goal.returns
returns c most h past b s =
    let r : Recording = record { header = h; past = past } in c.memory.ensures r (rw c.lines.ensures (c.shares.ensures most h past b s).lines)
