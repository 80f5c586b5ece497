use Rattle.std.proofs.Common.{◌≡◌, ◌∙◌, Some, slice_get, refl, sym, subst}
use Rattle.ace_model.proofs.General.Options.{Some-injective}
use Rattle.ace_portck.proofs.AllPorts.{on_ok, on_err}
use Rattle.ace_portck.proofs.ports.PortCheck.make_snoop_room.Goals as goal

pub returns-clause-stands : goal.returns-clause-stands
returns-clause-stands c = λ r s. record {
  header = s.header;
  is_header = s.is_header;
  accepted = s.accepted;
  bytes = s.bytes;
  count = s.count;
  len = c.make_room.ensures.len ∙ s.len;
  opening = s.opening;
  ports = c.make_room.ensures.stands r.header r.past c.args.self.now.outside s.ports;
}

pub returns-clause-room : goal.returns-clause-room
returns-clause-room c =
    on_ok c.make_room.result c.make_room.ensures.room
    (λ room addr snoop p k own at.
    let same = Some-injective c.args.port p own in
    room k (subst (λ q. slice_get c.make_room.new.ports.items q ≡ Some k) (sym same) at))

pub returns-clause-cause : goal.returns-clause-cause
returns-clause-cause c =
    on_err c.make_room.result c.make_room.ensures.cause
    (λ rises r addr snoop s. rises r.header r.past c.args.self.now.outside addr snoop s.ports)

pub returns-clause-succeeds : goal.returns-clause-succeeds
returns-clause-succeeds c = λ addr snoop room. c.make_room.ensures.succeeds (λ k at. room c.args.port k refl at)
