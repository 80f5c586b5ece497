use Rattle.std.proofs.Common.{refl}
use Rattle.ace_sysck.proofs.Terms.{L}
use Rattle.ace_sysck.proofs.Unmoved.{system_monitored}
use Rattle.ace_sysck.proofs.system.SysCheck.load.Goals as goal

pub returns-clause-stands : goal.returns-clause-stands
returns-clause-stands c = λ r w word s fine few.
    let a = c.args in
    system_monitored a.self.now c.load.new.self r (L a.port a.addr w a.x word) (record { barriers = refl; results = refl; registrations = refl; messages = refl; inboxes = refl; syncs = refl }) s fine few
    (c.load.ensures r w word (s.accepted, fine) s.monitors)
