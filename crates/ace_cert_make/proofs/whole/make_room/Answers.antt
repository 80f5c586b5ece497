use Rattle.std.proofs.Common.{subst, sym}
use Rattle.ace_event.specs.declared.event.Event.{Event}
use Rattle.ace_portck.specs.Stands.{HasRoom}
use Rattle.ace_portck.specs.Targets.{Recording}
use Rattle.ace_cert_make.proofs.Heard.{on_ok}
use Rattle.ace_cert_make.proofs.Points.{always, roomy}
use Rattle.ace_cert_make.proofs.whole.make_room.Goals as goal

pub returns-in-Ac-clause-stands : goal.returns-in-Ac-clause-stands
returns-in-Ac-clause-stands c = λ h past t.
    let r : Recording = record { header = h; past = past } in
    always c.make_snoop_room.result (c.make_snoop_room.ensures.stands r t)

pub returns-in-Ac-clause-room : goal.returns-in-Ac-clause-room
returns-in-Ac-clause-room c =
    on_ok c.make_snoop_room.result (λ room. subst (λ (e : Event). HasRoom c.make_snoop_room.new.self e) (sym c.in-Ac.is) (room c.in-Ac.addr c.in-Ac.snoop))
    c.make_snoop_room.ensures.room

pub returns-in_default-clause-room : goal.returns-in_default-clause-room
returns-in_default-clause-room c = roomy c.args.ports.now c.args.event.now c.in_default.not-Ac
