-- Which lines the ports watch at a point of a trace of loads and stores: what a history says of
-- reserved lines, said of the events.
use Rattle.std.specs.Prelude.{ℕ, Bool, true, false, not, ◌&&◌, ◌||◌, ◌==◌}
use Rattle.std.specs.Prelude.{if◌then◌else◌, [], ◌∷◌}
use Rattle.ace_event.specs.declared.event.Event.{Event}
use Rattle.ace_event.specs.declared.event.Event.TheVariants.{L, D}
use Rattle.ace_model.specs.Trace.{Trace}

-- Whether the port watches the line after the event, where it was so before: its L with x 1 lets
-- it watch its own line alone; a D of another port on the line ends that, and so does a D with x 1
-- of the port.
abbrev pub watched_by : ℕ → ℕ → Event → Bool → Bool
watched_by p a (L q addr w x word) was = if (p == q) && x then a == addr else was
watched_by p a (D q addr strobe true line) was = if (p == q) || (a == addr) then false else was
watched_by p a (D q addr strobe false line) was = if not (p == q) && (a == addr) then false else was
watched_by p a _ was = was

abbrev pub is_watched : Trace → ℕ → ℕ → Bool
is_watched [] p a = false
is_watched (e ∷ past) p a = watched_by p a e (is_watched past p a)
