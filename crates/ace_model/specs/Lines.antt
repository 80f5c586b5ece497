-- The lines that transactions name. A checker has a limit on their number.
use Rattle.std.specs.Prelude.{ℕ, Bool, not, ◌&&◌, if◌then◌else◌, List, [], ◌∷◌, length, Option, Some, None}
use Rattle.ace_event.specs.declared.header.Header.{Header}
use Rattle.ace_model.specs.declared.transactions.Transaction.{Transaction}
use Rattle.ace_model.specs.Trace.{Trace, is_some_and}
use Rattle.ace_model.specs.Transactions.{issued, is_line, is_on, some_issued}
use Rattle.ace_model.specs.Grants.{granted}
use Rattle.ace_model.specs.Exclusives.{has_failed}

-- a line transaction of the trace names the line
abbrev pub is_known : Trace → ℕ → Bool
is_known past l = some_issued past (λ x. is_on x l)

abbrev pub names_new_line : Trace → Transaction → Bool
names_new_line past x = is_line x && not (is_known past x.addr)

abbrev pub add_line : Trace → Option Transaction → List ℕ → List ℕ
add_line past None lines = lines
add_line past (Some x) lines = if names_new_line past x then x.addr ∷ lines else lines

-- the lines that line transactions name, each once, the newest first
abbrev pub known_lines : Trace → List ℕ
known_lines [] = []
known_lines (e ∷ past) = add_line past (issued (length past) e) (known_lines past)

-- the granted transaction of the line is an exclusive store that failed
abbrev pub has_failed_on : Header → Trace → ℕ → Bool
has_failed_on h past l = is_some_and (granted h past l) (has_failed past)
