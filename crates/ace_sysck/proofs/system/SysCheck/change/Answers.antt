use Rattle.std.proofs.Common.{◌∷◌, Some, refl}
use Rattle.ace_sysck.proofs.Terms.{S, IsAccepted}
use Rattle.ace_sysck.proofs.MonitorSteps.{monitors_leave, left_at}
use Rattle.ace_sysck.proofs.Steps.{port_within}
use Rattle.ace_sysck.proofs.Unmoved.{system_monitored}
use Rattle.ace_sysck.proofs.system.SysCheck.change.Goals as goal

pub returns-clause-stands : goal.returns-clause-stands
returns-clause-stands c = λ r s fine few.
    let a = c.args in
    let e = S a.port a.addr a.st in
    let accepted : IsAccepted r.header (e ∷ r.past) = (s.accepted, fine) in
    system_monitored a.self.now c.leave.new.self r e (record { barriers = refl; results = refl; registrations = refl; messages = refl; inboxes = refl; syncs = refl }) s fine few
    (monitors_leave r a.self.now.monitors c.leave.new.self e a.port (Some a.addr) a.st s.monitors (port_within r.header r.past e a.port accepted refl)
    (left_at r.header r.past e a.port a.st accepted refl).0 c.leave.ensures)
