-- The monitor of a master, which is set by its exclusive load (Arm IHI 0022E, C9). The interconnect
-- has one of its own.
use Rattle.std.specs.Prelude.{ℕ, Bool, false, not, ◌&&◌, ◌==◌, if◌then◌else◌, [], ◌∷◌}
use Rattle.ace_event.specs.declared.event.Event.{Event}
use Rattle.ace_event.specs.declared.event.Event.TheVariants.{L, D}
use Rattle.ace_event.specs.declared.header.Header.{Header}
use Rattle.ace_tables.specs.States.{is_invalid}
use Rattle.ace_model.specs.Trace.{Trace}
use Rattle.ace_model.specs.States.{state_of}

-- whether the port's monitor is set for the line after the event, where it was so before: an
-- exclusive load sets it for its own line alone, and an exclusive store ends it
abbrev pub is_set_by : Event → ℕ → ℕ → Bool → Bool
is_set_by (L q addr w x word) p l was = if (p == q) && x then l == addr else was
is_set_by (D q addr strobe x line) p l was = was && not ((p == q) && x)
is_set_by _ p l was = was

-- The port's last exclusive load is of the line; since then the port made no exclusive store, and
-- never held the line in I.
abbrev pub is_monitored : Header → Trace → ℕ → ℕ → Bool
is_monitored h [] p l = false
is_monitored h (e ∷ past) p l =
    is_set_by e p l (is_monitored h past p l) && not (is_invalid (state_of h (e ∷ past) p l))
