-- The state of a line at a port, and whether the snoops of a granted transaction are done.
use Rattle.std.specs.Prelude.{ℕ, Bool, false, not, ◌&&◌, ◌||◌, ◌==◌, if◌then◌else◌, [], ◌∷◌, Option, Some, None, is_none, unwrap_or}
use Rattle.std.specs.List.{list_all}
use Rattle.ace_codes.specs.declared.state.LineState.{LineState}
use Rattle.ace_codes.specs.declared.state.LineState.TheVariants.{I, UD}
use Rattle.ace_event.specs.declared.header.Header.{Header}
use Rattle.ace_event.specs.declared.event.Channel.TheVariants.{Read, Write}
use Rattle.ace_event.specs.declared.event.Event.{Event}
use Rattle.ace_event.specs.declared.event.Event.TheVariants.{Rk, Wk, Cr, S, D}
use Rattle.ace_model.specs.declared.transactions.Transaction.{Transaction}
use Rattle.ace_model.specs.Trace.{Trace, is_some_and}
use Rattle.ace_tables.specs.States.{is_invalid}
use Rattle.ace_model.specs.Transactions.{is_ace, is_read, has_since, is_some_on, is_make_unique_on, snoop_of, acknowledged, is_outstanding, is_outstanding_on, is_complete, some_issued, outstanding}
use Rattle.ace_model.specs.Snoops.{answers_line}
use Rattle.ace_model.specs.Grants.{was_snooped, owes_answer, owes_data, ports_below}
use Rattle.ace_model.specs.Exclusives.{has_failed}

-- a MakeUnique of the port on the line that is outstanding and complete: the next D of the line
-- belongs to it
abbrev pub awaits_store : Header → Trace → ℕ → ℕ → Transaction → Bool
awaits_store h past p l x =
    (x.port == p) && is_make_unique_on x l && is_outstanding h past x
    && is_complete past x.port x.chan x.id

abbrev pub is_in_make_unique : Header → Trace → ℕ → ℕ → Bool
is_in_make_unique h past p l = some_issued past (awaits_store h past p l)

-- the state of the line in which the event leaves the port, if it names one: RK, WK, CR and S name
-- it, and a D outside a MakeUnique makes the line UniqueDirty
abbrev pub left_by : Header → Trace → Event → ℕ → ℕ → Option LineState
left_by h past (Rk q st) p l =
    if (p == q) && is_some_on (acknowledged past p Read) l then Some st else None
left_by h past (Wk q st) p l =
    if (p == q) && is_some_on (acknowledged past p Write) l then Some st else None
left_by h past (Cr q resp st) p l = if (p == q) && answers_line past p l then Some st else None
left_by h past (S q addr st) p l = if (p == q) && (l == addr) then Some st else None
left_by h past (D q addr strobe x line) p l =
    if (p == q) && (l == addr) && not (is_in_make_unique h past p l) then Some UD else None
left_by h past _ p l = None

-- the state of the line at the port
abbrev pub state_of : Header → Trace → ℕ → ℕ → LineState
state_of h [] p l = I
state_of h (e ∷ past) p l = unwrap_or (left_by h past e p l) (state_of h past p l)

-- the event is the store of the port's MakeUnique under the identifier
abbrev pub is_store_of : Header → Trace → Event → ℕ → ℕ → Bool
is_store_of h past (D q addr strobe x line) p i =
    (p == q) && is_some_and (outstanding h past p Read i) (awaits_store h past p addr)
is_store_of h past _ p i = false

-- the port's last read under the identifier, a MakeUnique, has had its D
abbrev pub has_store : Header → Trace → ℕ → ℕ → Bool
has_store h past p i = has_since (λ before e q c j. is_store_of h before e q j) past p Read i

-- the port has a write of the line with B and without WK
abbrev pub awaits_wack : Header → Trace → ℕ → ℕ → Transaction → Bool
awaits_wack h past p l x =
    is_outstanding_on h past p l x && not (is_read x.chan) && is_complete past x.port x.chan x.id

abbrev pub owes_wack : Header → Trace → ℕ → ℕ → Bool
owes_wack h past p l = some_issued past (awaits_wack h past p l)

-- under the grant of x on the line port q owes no answer and no data, and it was snooped if it is
-- another ACE port that holds the line
abbrev pub is_port_done : Header → Trace → Transaction → ℕ → Bool
is_port_done h past x q =
    not (owes_answer past q x.addr) && not (owes_data past q x.addr)
    && ((q == x.port) || not (is_ace h q) || is_invalid (state_of h past q x.addr)
    || was_snooped past q x.addr)

-- the snoops of a granted transaction are done: it causes none, or it is an exclusive store that
-- failed, or under its grant every snoop is answered, announced data are whole, and each other ACE
-- port that holds the line was snooped
abbrev pub are_snoops_done : Header → Trace → Transaction → Bool
are_snoops_done h past x =
    is_none (snoop_of x) || has_failed past x
    || list_all (is_port_done h past x) (ports_below h.ports)
