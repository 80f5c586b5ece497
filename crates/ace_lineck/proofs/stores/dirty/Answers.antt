use Rattle.std.proofs.Common.{sym, ◌∙◌}
use Rattle.ace_lineck.proofs.StateSteps.{dirtied-states, stored-states}
use Rattle.ace_lineck.proofs.stores.dirty.Goals as goal

pub returns-then-not-own : goal.returns-then-not-own
returns-then-not-own c h past l addr strobe x line t s own =
    let a = c.args in
    dirtied-states h past l t a.states.now c.set_state.new.states a.port addr strobe x line c.set_state.ensures (sym own ∙ c.if-not-own.true) s

pub returns-else-not-own : goal.returns-else-not-own
returns-else-not-own c h past l addr strobe x line t s own =
    let a = c.args in
    stored-states h past l t a.states.now a.port addr strobe x line (sym own ∙ c.if-not-own.false) s
