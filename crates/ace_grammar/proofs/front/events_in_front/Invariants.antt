use Rattle.std.proofs.Common.{◌≡◌, List, length, ◌+◌}
use Rattle.ace_event.specs.declared.event.Event.{Event}
use Rattle.ace_grammar.specs.Front.{StoodInFront}
use Rattle.ace_grammar.proofs.front.events_in_front.Given as goal

abbrev pub invariant-events : goal.invariant-events
invariant-events g l = (events : List Event) × (length events + l.room ≡ l.initial.room)
    × StoodInFront g.T.Taker.took l.initial.rest l.rest events l.initial.taker l.taker

abbrev pub decreases-events : goal.decreases-events
decreases-events g l = l.room
