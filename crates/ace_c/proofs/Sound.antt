-- What a session that goes on has promised.
use Rattle.std.proofs.Common.{ℕ, Option, Some, None}
use Rattle.ace_event.specs.declared.event.Event.{Event}
use Rattle.ace_event.specs.declared.header.Header.{Header}
use Rattle.ace_model.specs.Trace.{Trace}
use Rattle.ace_check.specs.Run.{IsSound}
use Rattle.ace_check.proofs.Steps.{accepted_sound}
use Rattle.ace_c.specs.declared.session.Session.{Session}
use Rattle.ace_c.specs.Names.{named}
use Rattle.ace_c.specs.Sessions.{Hears, IsEventThat}

pub heard_sound : (s : Session) (most : ℕ) (h : Header) (past : Trace) → Hears s most h past → IsSound h (named past)
heard_sound s most h past hears = accepted_sound h (named past) hears.stands.tell.ports.accepted hears.stands.fits

-- what holds of the event gives what follows from it
pub event_then : (h : Header) (P Q : Event → Type 0) → ((e : Event) → P e → Q e) → (o : Option Event)
    → IsEventThat h o P → IsEventThat h o Q
event_then h P Q f None is = is
event_then h P Q f (Some e) is = (is.0, f e is.1)
