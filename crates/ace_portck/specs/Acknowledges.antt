-- The acknowledges of both channels as events of one form.
use Rattle.std.specs.Prelude.{ℕ}
use Rattle.ace_codes.specs.declared.state.LineState.{LineState}
use Rattle.ace_event.specs.declared.event.Channel.{Channel}
use Rattle.ace_event.specs.declared.event.Channel.TheVariants.{Read, Write}
use Rattle.ace_event.specs.declared.event.Event.{Event}
use Rattle.ace_event.specs.declared.event.Event.TheVariants.{Rk, Wk}

-- the RK of the port, or its WK for the write channel, with the state in which the port has the
-- line from then on
abbrev pub acknowledge : Channel → ℕ → LineState → Event
acknowledge Read p st = Rk p st
acknowledge Write p st = Wk p st
