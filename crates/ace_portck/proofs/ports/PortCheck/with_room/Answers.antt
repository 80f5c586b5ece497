use Rattle.std.proofs.Common.{refl}
use Rattle.ace_portck.proofs.AllPorts.{fresh_at}
use Rattle.ace_portck.proofs.ports.PortCheck.with_room.Goals as goal

pub returns-clause-stands : goal.returns-clause-stands
returns-clause-stands c = λ is_header. record {
  header = refl;
  is_header = is_header;
  accepted = tt;
  bytes = tt;
  count = refl;
  len = c.in_ok-ports.ensures.len;
  opening = c.new-2.ensures;
  ports = λ p. fresh_at c.in_ok-ports.ports.items c.in_ok-outside.outside c.in_ok-ports.ensures.fresh (λ h q. c.in_ok-outside.ensures.stands h q) p c.args.header p;
}
