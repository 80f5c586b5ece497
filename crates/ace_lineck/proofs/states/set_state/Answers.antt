use Rattle.std.proofs.Common.{◌≡◌, ◌<◌, length, arith}
use Rattle.std.proofs.lemmas.Grind.{common_steps}
use Rattle.ace_lineck.proofs.StateSteps.{state-set}
use Rattle.ace_lineck.proofs.states.set_state.Goals as goal

pub returns-then-from-lt32 : goal.returns-then-from-lt32
returns-then-from-lt32 c =
    let xs = c.args.states.now in
    let at : c.from-then-from-lt32.result ≡ c.args.port = grind (arith, common_steps) in
    let low : c.args.port < length xs = grind (arith, common_steps) in
    let few : c.args.port < 32 = grind (arith, common_steps) in
    rw at (state-set xs c.args.port c.args.st low few)
