use Rattle.ace_portck.specs.Targets.{Recording}
use Rattle.ace_cover.proofs.follow.shown_now.Goals as goal

pub returns : goal.returns
returns c lines h past b s =
    let r : Recording = record { header = h; past = past } in
    let tell = c.shares-shares.ensures lines h past b s in
    c.shown.ensures r (rw c.ports.ensures tell.ports) (rw c.lines.ensures tell.lines) (rw c.system.ensures tell.system)
