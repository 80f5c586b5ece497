use Rattle.std.proofs.Common.{ap, sym, subst, ◌∙◌, ◌∷◌, length, arith}
use Rattle.std.proofs.lemmas.List.{with_items_is}
use Rattle.ace_report.specs.Heard.{PortsStand}
use Rattle.ace_report.proofs.Tallies.{on_ok}
use Rattle.ace_report.proofs.report.Report.hear.Goals as goal

pub returns-in-Ok-clause-stands : goal.returns-in-Ok-clause-stands
returns-in-Ok-clause-stands c = λ h past t line s n.
    let few = n.few in
    let value = c.deref_mut.ensures.value in
    let len = c.count.ensures.len ∙ ap length value in
    let items = with_items_is c.args.self.now.ports c.count.new.ports (len ∙ sym c.args.self.now.ports.ok.0) in
    let place = c.place.ensures (record { header = h; past = past }) t in
    let loads = c.in-Ok.ensures.stands h past s.lines s.loads place n.accepted few in
    on_ok c.hear_line.result
    (λ lines. record {
      header = s.header;
      is_header = s.is_header;
      accepted = n.accepted;
      few = omega (arith, few);
      len = ap length items ∙ len ∙ s.len;
      ports = subst (PortsStand (c.args.event.now ∷ past)) (sym items) (c.count.ensures.ports past few (subst (PortsStand past) (sym value) s.ports));
      lines = lines;
      loads = loads;
    }) (c.hear_line.ensures.stands h past t line s.lines n)

pub returns-in-Err-clause-cause : goal.returns-in-Err-clause-cause
returns-in-Err-clause-cause c = λ h past t s. c.in-Err.ensures.cause h past
