use Rattle.std.proofs.Common.{refl}
use Rattle.ace_portck.proofs.one_port.OnePort.new.Goals as goal

pub returns-clause-stands : goal.returns-clause-stands
returns-clause-stands c = record {
  header = refl;
  port = refl;
  accepted = tt;
  bytes = tt;
  count = refl;
  kept = c.in_ok-kept.ensures.stands c.args.header c.args.port;
}
