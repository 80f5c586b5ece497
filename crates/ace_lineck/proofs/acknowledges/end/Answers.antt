use Rattle.std.proofs.Common.{refl}
use Rattle.ace_lineck.proofs.StateSteps.{acknowledged-states}
use Rattle.ace_lineck.proofs.AcknowledgeSteps.{acknowledged-record}
use Rattle.ace_lineck.proofs.acknowledges.end.Goals as goal

pub returns-clause-stands : goal.returns-clause-stands
returns-clause-stands c h past l ch t s own =
    let a = c.args in
    let k = a.kept.now in
    let grant = c.release.ensures h past l a.port ch a.st t k.holders.items k.memory
    (record { step = s.step; grant = s.stands.grant; holders = s.stands.holders; memory = s.stands.memory }) own in
    let states = acknowledged-states h past l t k.states c.set_state.new.states a.port a.st ch c.set_state.ensures (record { step = s.step; stand = s.stands.states }) in
    acknowledged-record h past l a.port a.st t ch k (record k { states = c.set_state.new.states; grant = c.release.new.grant }) s.stands refl refl grant states refl
