use Rattle.std.proofs.Common.{arith}
use Rattle.ace_portck.specs.Targets.{Recording}
use Rattle.ace_cert_make.proofs.whole.hear_next.Goals as goal

pub returns-in-Ok-hear : goal.returns-in-Ok-hear
returns-in-Ok-hear c = λ h past s n.
    let r : Recording = record { header = h; past = past } in
    let tell = c.in-Ok.ensures.stands h past s.tell in
    let few = n.few in
    record {
      tell = c.hear-in-Ok-hear.ensures.stands r (record { stands = tell; room = c.in-Ok.ensures.room; keeps = n.accepted.1; few = omega arith });
      stands = c.in-Ok-hear.ensures h past tell s.stands n;
      fits = (c.every_event_fits.ensures, s.fits);
    }
