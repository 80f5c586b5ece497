use Rattle.std.proofs.Common.{◌∙◌, ap}
use Rattle.ace_fabric.specs.System.{starting}
use Rattle.ace_live.proofs.States.{started-live}
use Rattle.ace_live.proofs.state.LiveState.new.Goals as goal

pub invariant_of-result : goal.invariant_of-result
invariant_of-result c =
    started-live c.in_ok-system.system (record { ports = c.args.ports; ways = c.args.ways; policy = c.args.policy; room = c.args.room })
    c.header_of.result c.header_of.ensures.value c.requires.most_ports (c.in_ok-system.ensures ∙ ap starting c.in_ok-plan.ensures)
