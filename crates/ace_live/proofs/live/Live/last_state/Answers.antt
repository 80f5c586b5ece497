use Rattle.ace_live.proofs.Gathering.{ended, end_setting, end_longest, end_begins, end_some}
use Rattle.ace_live.proofs.live.Live.last_state.Goals as goal

pub unreachable-requires : goal.unreachable-requires
unreachable-requires c = end_some c.args.self _ _
    (ended c.args.self _ _ _ c.args.seats.items _ _ _ c.self.view_is c.gather-place.ensures.board.1 c.gather-place.ensures.all
    c.requires.ports.1 c.close_with-closed.ensures.values.2 c.take-slot.ensures.value)
    c.in_default.is

pub returns-clause-setting : goal.returns-clause-setting
returns-clause-setting c = end_setting c.args.self _ _ _
    (ended c.args.self _ _ _ c.args.seats.items _ _ _ c.self.view_is c.gather-place.ensures.board.1 c.gather-place.ensures.all
    c.requires.ports.1 c.close_with-closed.ensures.values.2 c.take-slot.ensures.value)
    c.in-Some.is

pub returns-clause-longest : goal.returns-clause-longest
returns-clause-longest c = end_longest c.args.self _ _ _
    (ended c.args.self _ _ _ c.args.seats.items _ _ _ c.self.view_is c.gather-place.ensures.board.1 c.gather-place.ensures.all
    c.requires.ports.1 c.close_with-closed.ensures.values.2 c.take-slot.ensures.value)
    c.in-Some.is

pub returns-clause-begins : goal.returns-clause-begins
returns-clause-begins c = end_begins c.args.self _ _ _
    (ended c.args.self _ _ _ c.args.seats.items _ _ _ c.self.view_is c.gather-place.ensures.board.1 c.gather-place.ensures.all
    c.requires.ports.1 c.close_with-closed.ensures.values.2 c.take-slot.ensures.value)
    c.in-Some.is
