use Rattle.std.proofs.Common.{◌∷◌, subst, sym}
use Rattle.ace_event.specs.declared.header.Header.{Header}
use Rattle.ace_portck.specs.Targets.{Recording}
use Rattle.ace_engine.proofs.Rooms.{few-events-there, few-lines-known, room-for-event}
use Rattle.ace_sysck.specs.Stands as sysck
use Rattle.ace_order.specs.Senders.{AreSenders}
use Rattle.ace_order.proofs.order.Order.note.Goals as goal

pub returns : goal.returns
returns c = λ plan past s legal.
    let e = c.args.event.now in
    let r : Recording = record { header = plan.header; past = past } in
    let few = few-events-there plan past s.legal in
    let heard = c.hear.ensures 4096 r
    (record { stands = s.system; ports = s.ports; room = s.lines; few_lines = few-lines-known plan past s.legal; kept = legal.accepted.1; few = few }) in
    let ports = c.hear-2.ensures.stands r (record {
      stands = s.ports;
      room = room-for-event plan past e c.args.self.now.ports legal s.ports.ports s.snoops;
      keeps = legal.accepted.1;
      few = few;
    }) in
    record {
      legal = legal;
      header = s.header;
      ports = ports;
      snoops = c.hear-2.ensures.room 24576 s.snoops;
      system = heard.stands;
      lines = heard.room;
      waiting = c.hear-3.ensures plan.header past ports heard.stands s.waiting;
      quiet = c.hear-4.ensures plan.header past legal.accepted ports s.quiet;
      senders = subst (λ (h : Header). AreSenders h (e ∷ past) c.hear-5.new.self) s.header
          (c.hear-5.ensures past (subst (λ (h : Header). sysck.Stands c.hear.new.self (record { header = h; past = e ∷ past })) (sym s.header) heard.stands)
          (subst (λ (h : Header). AreSenders h past c.args.self.now.senders) (sym s.header) s.senders));
    }
