use Rattle.ace_portck.specs.Targets.{Recording}
use Rattle.ace_chart_rows.proofs.told.next_transfers.Goals as goal

pub returns : goal.returns
returns c most h past b s =
    let r : Recording = record { header = h; past = past } in c.next_transfers.ensures r (c.ports.ensures most h past b s)
