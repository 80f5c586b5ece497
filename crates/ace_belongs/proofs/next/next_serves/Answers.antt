use Rattle.ace_portck.specs.Targets.{Recording}
use Rattle.ace_belongs.proofs.next.next_serves.Goals as goal

pub returns : goal.returns
returns c most h past b s =
    let r : Recording = record { header = h; past = past } in c.serves.ensures r (c.ports.ensures most h past b s)
