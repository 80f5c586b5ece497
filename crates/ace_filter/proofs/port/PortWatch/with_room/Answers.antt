use Rattle.ace_filter.proofs.Ports.{none-under}
use Rattle.ace_filter.proofs.port.PortWatch.with_room.Goals as goal

pub returns-clause-stands : goal.returns-clause-stands
returns-clause-stands c = λ p. record {
  reads = λ i low. none-under 256 i;
  writes = λ i low. none-under 256 i;
  complete = c.in_ok-complete.ensures.stands;
  snoops = c.in_ok-snoops.ensures.stands;
}
