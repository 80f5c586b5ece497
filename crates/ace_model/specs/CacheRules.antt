-- The rules of what a master does with the lines that it holds, K29 to K33.
use Rattle.std.specs.Prelude.{ℕ, Bool, true, not, ◌&&◌, ◌||◌, ◌==◌}
use Rattle.ace_event.specs.declared.event.Event.{Event}
use Rattle.ace_event.specs.declared.event.Event.TheVariants.{S, L, D}
use Rattle.ace_event.specs.declared.header.Header.{Header}
use Rattle.ace_tables.specs.SilentTransitions.{is_silent_move}
use Rattle.ace_tables.specs.States.{is_invalid, is_unique}
use Rattle.ace_model.specs.Trace.{Trace, implies}
use Rattle.ace_model.specs.Transactions.{has_outstanding_on, some_issued}
use Rattle.ace_model.specs.Progress.{has_update}
use Rattle.ace_model.specs.States.{state_of, awaits_store, has_store}
use Rattle.ace_model.specs.Copies.{word_of, copy_of}
use Rattle.ace_model.specs.Values.{full_line}
use Rattle.ace_model.specs.Monitors.{is_monitored}

-- K29: the state of an S is one to which the port's state of the line may move silently, and it
-- isn't I while a memory update of the port on the line is outstanding (Arm IHI 0022E, C4; the
-- second part is our choice).
abbrev pub k29 : Header → Trace → Event → Bool
k29 h past (S p addr st) =
    is_silent_move (state_of h past p addr) st && not (is_invalid st && has_update h past p addr)
k29 h past _ = true

-- K30: the port of an L holds the line: its state isn't I (Arm IHI 0022E, C1.2.3).
abbrev pub k30 : Header → Trace → Event → Bool
k30 h past (L p addr w x word) = not (is_invalid (state_of h past p addr))
k30 h past _ = true

-- K31: the word of an L is that word of the port's copy.
abbrev pub k31 : Header → Trace → Event → Bool
k31 h past (L p addr w x word) = word == word_of (copy_of past p addr) w
k31 h past _ = true

-- the port holds the line alone, and nothing of it is on its way
abbrev pub may_store : Header → Trace → ℕ → ℕ → Bool
may_store h past p l = is_unique (state_of h past p l) && not (has_outstanding_on h past p l)

-- a MakeUnique of the port on the line waits for the store of the whole line
abbrev pub wants_store : Header → Trace → ℕ → ℕ → Bool
wants_store h past p l =
    some_issued past (λ x. awaits_store h past p l x && not (has_store h past x.port x.id))

-- K32: the port of a D holds the line in UC or UD, and no transaction of the port on the line is
-- outstanding; or a MakeUnique of the port on the line is complete without RK and without D, x is
-- 0, and the strobe is all ones (Arm IHI 0022E, C1.2.3 and C4).
abbrev pub k32 : Header → Trace → Event → Bool
k32 h past (D p addr strobe x line) =
    may_store h past p addr || (wants_store h past p addr && not x && (strobe == full_line))
k32 h past _ = true

-- K33: at a D with x 1 the port's last L with x 1 is of this line; since then the port made no D
-- with x 1, and its state of the line was never I (Arm IHI 0022E, C9).
abbrev pub k33 : Header → Trace → Event → Bool
k33 h past (D p addr strobe x line) = implies x (is_monitored h past p addr)
k33 h past _ = true
