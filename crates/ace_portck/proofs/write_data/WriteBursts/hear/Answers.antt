use Rattle.ace_portck.proofs.WriteSteps.{writes_stay, other_kind}
use Rattle.ace_portck.proofs.write_data.WriteBursts.hear.Goals as goal

pub returns-in_default : goal.returns-in_default
returns-in_default c = λ h past p heard s.
    let n = c.in_default in
    writes_stay h past p c.args.self.now s c.args.event.now heard.accepted (other_kind c.args.event.now p n.not-Aw n.not-W n.not-M)
