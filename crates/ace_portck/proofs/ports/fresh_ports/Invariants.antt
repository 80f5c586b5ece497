use Rattle.std.proofs.Common.{◌≡◌, length}
use Rattle.ace_portck.proofs.Terms.{All, AreRoomy, IsFresh}
use Rattle.ace_portck.proofs.ports.fresh_ports.Given as goal

-- the records so far are of ports without events
abbrev pub invariant-loop-port : goal.invariant-loop-port
invariant-loop-port l = record {
  len : length l.ports.items ≡ l._port;
  fresh : All IsFresh l.ports.items;
  room : AreRoomy l.snoops l.ports.items;
}
