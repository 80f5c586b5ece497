-- Since when a line is as it is: after how many events of the trace it came to be so, which is the
-- number of the last of these; 0 where it has been so from the first.
use Rattle.std.specs.Prelude.{ℕ, ◌+◌, if◌then◌else◌, [], ◌∷◌, is_some, length}
use Rattle.ace_event.specs.declared.header.Header.{Header}
use Rattle.ace_model.specs.Copies.{written}
use Rattle.ace_model.specs.States.{state_of}
use Rattle.ace_model.specs.Trace.{Trace}
use Rattle.ace_tables.specs.States.{same_state}

-- the last event that changed the state of the line at the port
abbrev pub state_since : Header → Trace → ℕ → ℕ → ℕ
state_since h [] p l = 0
state_since h (e ∷ past) p l =
    if same_state (state_of h (e ∷ past) p l) (state_of h past p l) then state_since h past p l
    else length past + 1

-- the last event that wrote memory of the line
abbrev pub memory_since : Trace → ℕ → ℕ
memory_since [] l = 0
memory_since (e ∷ past) l =
    if is_some (written past e l) then length past + 1 else memory_since past l
