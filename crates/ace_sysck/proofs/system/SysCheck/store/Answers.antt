use Rattle.std.proofs.Common.{refl}
use Rattle.ace_sysck.proofs.Terms.{D}
use Rattle.ace_sysck.proofs.Unmoved.{system_monitored}
use Rattle.ace_sysck.proofs.system.SysCheck.store.Goals as goal

pub returns-clause-stands : goal.returns-clause-stands
returns-clause-stands c = λ r addr strobe line s fine few.
    let a = c.args in
    system_monitored a.self.now c.store.new.self r (D a.port addr strobe a.x line) (record { barriers = refl; results = refl; registrations = refl; messages = refl; inboxes = refl; syncs = refl }) s fine few
    (c.store.ensures r addr strobe line (s.accepted, fine) s.monitors)
