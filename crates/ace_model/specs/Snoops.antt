-- The snoops of a port. Its CR events answer its AC events in their order, and its CD events belong
-- to its answers with DataTransfer in their order, four beats to each (Arm IHI 0022E, C3.6 to
-- C3.8).
use Rattle.std.specs.Prelude.{ℕ, ◌+◌, Bool, ◌&&◌, ◌==◌, if◌then◌else◌, List, [], ◌∷◌, Option, Some, None, length, slice_get}
use Rattle.ace_event.specs.declared.event.Event.{Event}
use Rattle.ace_event.specs.declared.event.Event.TheVariants.{Ac, Cr, Cd}
use Rattle.ace_model.specs.declared.snoops.Snoop.{Snoop}
use Rattle.ace_model.specs.Trace.{Trace, is_some_and, more}
use Rattle.ace_codes.specs.Snoops.{ac_kind_of}
use Rattle.ace_model.specs.Kinds.{is_line_snoop}
use Rattle.ace_codes.specs.Responses.{transfers_data}

-- the snoop of the port that the event is, where so many events came before it
abbrev pub snoop_at : ℕ → Event → ℕ → Option Snoop
snoop_at place (Ac q addr snoop) p =
    if p == q then Some (record { place = place; addr = addr; snoop = snoop }) else None
snoop_at place _ p = None

-- the port's snoops, in order
abbrev pub snoops_of : Trace → ℕ → List Snoop
snoops_of [] p = []
snoops_of (e ∷ past) p = more (snoops_of past p) (snoop_at (length past) e p)

-- how many CR events the port has
abbrev pub answers : Trace → ℕ → ℕ
answers [] p = 0
answers (Cr q resp st ∷ past) p = if p == q then answers past p + 1 else answers past p
answers (_ ∷ past) p = answers past p

-- the snoop that the port's next CR answers: its oldest unanswered one
abbrev pub answered : Trace → ℕ → Option Snoop
answered past p = slice_get (snoops_of past p) (answers past p)

-- the code is that of a line snoop
abbrev pub snoops_a_line : ℕ → Bool
snoops_a_line snoop = is_some_and (ac_kind_of snoop) is_line_snoop

-- a line snoop of this line
abbrev pub is_snoop_on : Snoop → ℕ → Bool
is_snoop_on s l = snoops_a_line s.snoop && (s.addr == l)

-- the port's next CR answers a snoop of the line
abbrev pub answers_line : Trace → ℕ → ℕ → Bool
answers_line past p l = is_some_and (answered past p) (λ s. is_snoop_on s l)

-- how many of the port's answers have DataTransfer
abbrev pub data_answers : Trace → ℕ → ℕ
data_answers [] p = 0
data_answers (Cr q resp st ∷ past) p =
    if (p == q) && transfers_data resp then data_answers past p + 1 else data_answers past p
data_answers (_ ∷ past) p = data_answers past p

-- how many CD events the port has
abbrev pub data_beats : Trace → ℕ → ℕ
data_beats [] p = 0
data_beats (Cd q last word ∷ past) p = if p == q then data_beats past p + 1 else data_beats past p
data_beats (_ ∷ past) p = data_beats past p
