-- The clauses of the rules of what a master does with the lines that it holds, K29 to K33. K30 and
-- K31 have one clause, which is the rule. A clause may presume the earlier ones of its rule.
use Rattle.std.specs.Prelude.{ℕ, Bool, true, false, not, ◌&&◌, ◌||◌, ◌==◌, if◌then◌else◌, [], ◌∷◌, Option, Some, None, is_some}
use Rattle.ace_event.specs.declared.event.Event.{Event}
use Rattle.ace_event.specs.declared.event.Event.TheVariants.{S, L, D}
use Rattle.ace_event.specs.declared.header.Header.{Header}
use Rattle.ace_tables.specs.SilentTransitions.{is_silent_move}
use Rattle.ace_tables.specs.States.{is_invalid, is_unique}
use Rattle.ace_model.specs.Trace.{Trace, implies, is_none_or}
use Rattle.ace_model.specs.Transactions.{has_outstanding_on}
use Rattle.ace_model.specs.Progress.{has_update}
use Rattle.ace_model.specs.States.{state_of, is_in_make_unique}
use Rattle.ace_model.specs.Values.{full_line}
use Rattle.ace_model.specs.CacheRules.{wants_store}

-- K29a: the move of an S is a silent one: UC -> SC, UC -> I, SC -> I or UD -> SD.
abbrev pub k29a : Header → Trace → Event → Bool
k29a h past (S p addr st) = is_silent_move (state_of h past p addr) st
k29a h past _ = true

-- K29b: no S to I while a memory update of the port on the line is outstanding.
abbrev pub k29b : Header → Trace → Event → Bool
k29b h past (S p addr st) = not (is_invalid st && has_update h past p addr)
k29b h past _ = true

-- K32a: the port of a D holds the line in UC or UD, unless a MakeUnique of it on the line waits for
-- its end.
abbrev pub k32a : Header → Trace → Event → Bool
k32a h past (D p addr strobe x line) =
    is_in_make_unique h past p addr || is_unique (state_of h past p addr)
k32a h past _ = true

-- K32b: no transaction of the port on the line is outstanding, unless it is such a MakeUnique.
abbrev pub k32b : Header → Trace → Event → Bool
k32b h past (D p addr strobe x line) =
    is_in_make_unique h past p addr || not (has_outstanding_on h past p addr)
k32b h past _ = true

-- K32c: such a MakeUnique has one store.
abbrev pub k32c : Header → Trace → Event → Bool
k32c h past (D p addr strobe x line) =
    implies (is_in_make_unique h past p addr) (wants_store h past p addr)
k32c h past _ = true

-- K32d: the store of a MakeUnique isn't exclusive.
abbrev pub k32d : Header → Trace → Event → Bool
k32d h past (D p addr strobe x line) = implies (is_in_make_unique h past p addr) (not x)
k32d h past _ = true

-- K32e: the store of a MakeUnique writes the whole line.
abbrev pub k32e : Header → Trace → Event → Bool
k32e h past (D p addr strobe x line) =
    implies (is_in_make_unique h past p addr) (strobe == full_line)
k32e h past _ = true

-- the line of the port's last exclusive load
abbrev pub last_exclusive_load : Trace → ℕ → Option ℕ
last_exclusive_load [] p = None
last_exclusive_load (L q addr w x word ∷ past) p =
    if (p == q) && x then Some addr else last_exclusive_load past p
last_exclusive_load (_ ∷ past) p = last_exclusive_load past p

-- the port has made an exclusive store since its last exclusive load
abbrev pub has_stored_since : Trace → ℕ → Bool
has_stored_since [] p = false
has_stored_since (L q addr w x word ∷ past) p = not ((p == q) && x) && has_stored_since past p
has_stored_since (D q addr strobe x line ∷ past) p = ((p == q) && x) || has_stored_since past p
has_stored_since (_ ∷ past) p = has_stored_since past p

-- the event is an exclusive load of the port
abbrev pub is_exclusive_load : Event → ℕ → Bool
is_exclusive_load (L q addr w x word) p = (p == q) && x
is_exclusive_load _ p = false

-- the port has held the line since its last exclusive load, and at it
abbrev pub has_held_since : Header → Trace → ℕ → ℕ → Bool
has_held_since h [] p l = false
has_held_since h (e ∷ past) p l =
    (is_exclusive_load e p || has_held_since h past p l)
    && not (is_invalid (state_of h (e ∷ past) p l))

-- K33a: the port of a D with x 1 has made an exclusive load.
abbrev pub k33a : Header → Trace → Event → Bool
k33a h past (D p addr strobe x line) = implies x (is_some (last_exclusive_load past p))
k33a h past _ = true

-- K33b: its last exclusive load was of this line.
abbrev pub k33b : Header → Trace → Event → Bool
k33b h past (D p addr strobe x line) =
    implies x (is_none_or (last_exclusive_load past p) (λ loaded. addr == loaded))
k33b h past _ = true

-- K33c: it has made no exclusive store since.
abbrev pub k33c : Header → Trace → Event → Bool
k33c h past (D p addr strobe x line) = implies x (not (has_stored_since past p))
k33c h past _ = true

-- K33d: it has held the line ever since.
abbrev pub k33d : Header → Trace → Event → Bool
k33d h past (D p addr strobe x line) = implies x (has_held_since h past p addr)
k33d h past _ = true
