use Rattle.ace_portck.specs.Targets.{Recording}
use Rattle.ace_engine.proofs.Rooms.{few-events-there, room-for-event}
use Rattle.ace_update.proofs.Rooms.{few-lines-there}
use Rattle.ace_update.proofs.update.Update.note.Goals as goal

pub returns : goal.returns
returns c = λ plan past s legal.
    let e = c.args.event.now in
    let r : Recording = record { header = plan.header; past = past } in
    record {
      legal = legal;
      ports = c.hear-2.ensures.stands r (record {
        stands = s.ports;
        room = room-for-event plan past e c.args.self.now.ports legal s.ports.ports s.room;
        keeps = legal.accepted.1;
        few = few-events-there plan past s.legal;
      });
      room = c.hear-2.ensures.room 24576 s.room;
      passed = c.hear.ensures plan.header past legal.accepted s.ports (few-lines-there plan past c.args.self.now.passed s.legal s.passed) s.passed;
    }
