use Rattle.std.proofs.Common.{◌≡◌, ◌-◌}
use Rattle.ace_places.specs.Walks.{first_digits, first_slot, link_at, steps, walk}
use Rattle.ace_places.proofs.walk.walk.Given as goal

abbrev pub invariant-loop-step : goal.invariant-loop-step
invariant-loop-step l =
    walk l.lines (link_at l.links) l.line (steps - l._step) l.slot l.digits
    ≡ walk l.lines (link_at l.links) l.line steps (first_slot l.line) (first_digits l.line)
