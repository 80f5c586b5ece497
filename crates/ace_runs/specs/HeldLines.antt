-- The lines that a port holds.
use Rattle.std.specs.Prelude.{ℕ, not, ◌==◌, if◌then◌else◌, List, [], ◌∷◌, filter, Option, Some, None, option_and_then}
use Rattle.ace_codes.specs.declared.state.LineState.{LineState}
use Rattle.ace_event.specs.declared.event.Channel.TheVariants.{Read, Write}
use Rattle.ace_event.specs.declared.event.Event.{Event}
use Rattle.ace_event.specs.declared.event.Event.TheVariants.{Rk, Wk, Cr, S, D}
use Rattle.ace_event.specs.declared.header.Header.{Header}
use Rattle.ace_tables.specs.States.{is_invalid}
use Rattle.ace_model.specs.declared.snoops.Snoop.{Snoop}
use Rattle.ace_model.specs.declared.transactions.Transaction.{Transaction}
use Rattle.ace_model.specs.Trace.{Trace}
use Rattle.ace_model.specs.Transactions.{is_line, acknowledged}
use Rattle.ace_model.specs.Snoops.{answered, snoops_a_line}
use Rattle.ace_model.specs.States.{state_of}
use Rattle.ace_runs.specs.Segments.{is_at_port}

abbrev pub line_of_transaction : Transaction → Option ℕ
line_of_transaction x = if is_line x then Some x.addr else None

abbrev pub line_of_snoop : Snoop → Option ℕ
line_of_snoop s = if snoops_a_line s.snoop then Some s.addr else None

-- the line whose state at its port the event may change
abbrev pub line_told : Trace → Event → Option ℕ
line_told past (Rk p st) = option_and_then line_of_transaction (acknowledged past p Read)
line_told past (Wk p st) = option_and_then line_of_transaction (acknowledged past p Write)
line_told past (Cr p resp st) = option_and_then line_of_snoop (answered past p)
line_told past (S p addr st) = Some addr
line_told past (D p addr strobe x line) = Some addr
line_told past _ = None

abbrev pub others : ℕ → List ℕ → List ℕ
others l lines = filter (λ k. not (k == l)) lines

-- the lines with this one, which is in that state now
abbrev pub with_line : Option ℕ → (ℕ → LineState) → List ℕ → List ℕ
with_line None state lines = lines
with_line (Some l) state lines = if is_invalid (state l) then others l lines else l ∷ others l lines

-- the lines that the port holds in a state other than I
abbrev pub held_lines : Header → Trace → ℕ → List ℕ
held_lines h [] p = []
held_lines h (e ∷ past) p =
    if is_at_port p e then with_line (line_told past e) (state_of h (e ∷ past) p)
    (held_lines h past p) else held_lines h past p
