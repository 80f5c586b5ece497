use Rattle.std.proofs.Common.{refl, sym, subst}
use Rattle.ace_lineck.specs.Stands.{Stands as LinesTell}
use Rattle.ace_portck.specs.Stands.{Stands as PortsTell}
use Rattle.ace_portck.specs.Targets.{Recording}
use Rattle.ace_sysck.specs.Stands.{Stands as SystemTells}
use Rattle.ace_explanation.proofs.follow.refuse.Goals as goal

pub returns-clause-breaks : goal.returns-clause-breaks
returns-clause-breaks c lines past b stands loads journal since line row broken =
    let r : Recording = record { header = c.args.header; past = past } in
    let tell = c.shares-shares.ensures lines c.args.header past b stands in
    let ports = subst (λ s. PortsTell s r) (sym c.ports-ports.ensures) tell.ports in
    let kept = subst (λ s. LinesTell s r) (sym c.lines-lines.ensures) tell.lines in
    let system = subst (λ s. SystemTells s r) (sym c.system.ensures) tell.system in (
      refl,
      refl,
      c.clause-found.ensures c.args.header past tell loads broken,
      c.expectation.ensures r ports kept system,
      c.origin.ensures r ports kept since journal line,
      c.before_event.ensures r ports kept since,
      c.led.ensures c.args.header past c.args.event.now journal line row (c.next_transfers.ensures r ports),
    )
