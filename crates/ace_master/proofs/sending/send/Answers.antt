use Rattle.std.proofs.Common.{◌≡◌, ◌++◌, List, Some, sym, ap, subst, ◌∙◌}
use Rattle.ace_event.specs.declared.event.Event.{Event}
use Rattle.ace_model.specs.Writes.{next_write, next_write_beat}
use Rattle.ace_portck.specs.OnePort.{port_of}
use Rattle.ace_master.specs.Operations.{beats_of_data}
use Rattle.ace_master.specs.Sending.{IsSent}
use Rattle.ace_master.proofs.WriteData.BeatsSent.{send-all}
use Rattle.ace_master.proofs.sending.send.Goals as goal

pub returns-clause-sent : goal.returns-clause-sent
returns-clause-sent c = λ sent plan past k s keeps.
    let p = port_of c.args.port.now in
    let x = c.in-Some.write in
    let d = c.data_to_send-data.result in
    let next : next_write past p ≡ Some x = sym (c.next_write.ensures plan.header past p k.kept) ∙ c.in-Some.is in
    let first : next_write_beat past p ≡ 0 = sym (c.next_write_beat.ensures plan.header past p k.kept) ∙ c.if-next_write_beat-ne0.false in
    let burst : c.push_all.new.out ≡ beats_of_data p d =
    c.push_all.ensures ∙ ap (λ (es : List Event). es ++ c.beats.result) c.requires ∙ c.beats.ensures ∙ ap (λ q. beats_of_data q d) c.port.ensures in
    subst (IsSent plan past p) (sym burst) (send-all plan past p x d k.legal next first (c.data_to_send-data.ensures plan past p keeps s k.legal next))
