use Rattle.std.proofs.Common.{◌∷◌, sym, subst, true, refl, Bool}
use Rattle.ace_sysck.proofs.Terms.{D, IsAccepted, after, MonitorsStand}
use Rattle.ace_sysck.proofs.Steps.{port_within}
use Rattle.ace_sysck.proofs.MonitorSteps.{monitors_store, monitors_exclusive_store}
use Rattle.ace_sysck.proofs.monitors.Monitors.store.Goals as goal

pub returns-then-x : goal.returns-then-x
returns-then-x c = λ r l strobe line a stands.
    let p = c.args.port in
    let accepted = subst (λ (b : Bool). IsAccepted r.header (D p l strobe b line ∷ r.past)) c.if-x.true a in
    subst (λ (b : Bool). MonitorsStand (after r (D p l strobe b line)) c.set.new.self) (sym c.if-x.true)
    (monitors_exclusive_store r c.args.self.now c.set.new.self p l strobe line stands (port_within r.header r.past (D p l strobe true line) p accepted refl) c.set.ensures)

pub returns-else-x : goal.returns-else-x
returns-else-x c = λ r l strobe line a stands.
    subst (λ (b : Bool). MonitorsStand (after r (D c.args.port l strobe b line)) c.args.self.now) (sym c.if-x.false)
    (monitors_store r c.args.self.now c.args.port l strobe line stands)
