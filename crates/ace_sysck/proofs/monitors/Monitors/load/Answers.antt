use Rattle.std.proofs.Common.{◌∷◌, sym, subst, true, refl, Bool}
use Rattle.ace_sysck.proofs.Terms.{L, IsAccepted, after, MonitorsStand}
use Rattle.ace_sysck.proofs.Steps.{port_within}
use Rattle.ace_sysck.proofs.MonitorSteps.{monitors_load, monitors_exclusive_load}
use Rattle.ace_sysck.proofs.monitors.Monitors.load.Goals as goal

pub returns-then-x : goal.returns-then-x
returns-then-x c = λ r w word a stands.
    let p = c.args.port in
    let l = c.args.addr in
    let accepted = subst (λ (b : Bool). IsAccepted r.header (L p l w b word ∷ r.past)) c.if-x.true a in
    subst (λ (b : Bool). MonitorsStand (after r (L p l w b word)) c.set.new.self) (sym c.if-x.true)
    (monitors_exclusive_load r c.args.self.now c.set.new.self p l w word accepted stands (port_within r.header r.past (L p l w true word) p accepted refl) c.set.ensures)

pub returns-else-x : goal.returns-else-x
returns-else-x c = λ r w word a stands.
    subst (λ (b : Bool). MonitorsStand (after r (L c.args.port c.args.addr w b word)) c.args.self.now) (sym c.if-x.false)
    (monitors_load r c.args.self.now c.args.port c.args.addr w word stands)
