use Rattle.ace_portck.proofs.SnoopSteps.{snoops_stay, other_kind}
use Rattle.ace_portck.proofs.snoops.SnoopQueues.hear.Goals as goal

pub returns-in_default-clause-stands : goal.returns-in_default-clause-stands
returns-in_default-clause-stands c = λ h past p heard s room.
    snoops_stay past p c.args.self.now s c.args.event.now (other_kind c.args.event.now p c.in_default.not-Ac c.in_default.not-Cr c.in_default.not-Cd)
