use Rattle.std.proofs.Common.{◌≡◌, ◌∷◌, List, length, subst, sym, ap, ◌∙◌}
use Rattle.std.proofs.lemmas.List.{with_items_is}
use Rattle.ace_portck.specs.Targets.{Recording}
use Rattle.ace_engine.proofs.Rooms.{few-events-there, few-lines-known, room-for-event}
use Rattle.ace_fabric.specs.Left.{CountsStand}
use Rattle.ace_fabric.specs.declared.left.PortLeft.{PortLeft}
use Rattle.ace_fabric.proofs.left.Left.hear.Goals as goal

pub returns : goal.returns
returns c = λ plan past s legal.
    let e = c.args.event.now in
    let old = c.args.self.now in
    let r : Recording = record { header = plan.header; past = past } in
    let few = few-events-there plan past s.legal in
    let heard = c.hear.ensures 4096 r
    (record { stands = s.system; ports = s.ports; room = s.lines; few_lines = few-lines-known plan past s.legal; kept = legal.accepted.1; few = few }) in
    let same : length c.note.new.counts ≡ length old.counts.items = c.note.auto.counts ∙ ap length c.as_mut_slice.ensures.value in
    let items = with_items_is old.counts c.note.new.counts (same ∙ sym old.counts.ok.0) in
    let counts = subst (λ (xs : List PortLeft). CountsStand plan past xs) (sym c.as_mut_slice.ensures.value) s.counts in
    record {
      legal = legal;
      ports = c.hear-2.ensures.stands r
          (record { stands = s.ports; room = room-for-event plan past e old.ports legal s.ports.ports s.room; keeps = legal.accepted.1; few = few });
      room = c.hear-2.ensures.room 24576 s.room;
      system = heard.stands;
      lines = heard.room;
      count = ap length items ∙ same ∙ s.count;
      counts = subst (λ (xs : List PortLeft). CountsStand plan (e ∷ past) xs) (sym items) (c.note.ensures plan past counts legal);
    }
