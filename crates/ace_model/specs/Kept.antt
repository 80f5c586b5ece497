-- The ports that a snoop filter keeps for a line: those that may hold it.
use Rattle.std.specs.Prelude.{ℕ, Bool, true, false, not, ◌&&◌, ◌||◌, ◌==◌, [], ◌∷◌, ◌≡◌, ◌≢◌}
use Rattle.ace_codes.specs.declared.kind.ArKind.{ArKind}
use Rattle.ace_codes.specs.declared.kind.AwKind.{AwKind}
use Rattle.ace_codes.specs.declared.kind.AwKind.TheVariants as write
use Rattle.ace_codes.specs.declared.state.LineState.TheVariants.{I}
use Rattle.ace_event.specs.declared.event.Channel.TheVariants.{Write}
use Rattle.ace_event.specs.declared.event.Event.{Event}
use Rattle.ace_event.specs.declared.event.Event.TheVariants.{Cr, Wk}
use Rattle.ace_event.specs.declared.header.Header.{Header}
use Rattle.ace_tables.specs.EndStates.{is_fetch}
use Rattle.ace_tables.specs.States.{is_invalid}
use Rattle.ace_model.specs.declared.transactions.Transaction.{Transaction}
use Rattle.ace_model.specs.Grants.{given}
use Rattle.ace_model.specs.Kinds.{is_make_unique}
use Rattle.ace_model.specs.Snoops.{answers_line}
use Rattle.ace_model.specs.States.{state_of}
use Rattle.ace_model.specs.Trace.{Trace, AtEveryPoint, is_some_and}
use Rattle.ace_model.specs.Transactions.{acknowledged, is_ace, read_kind, write_kind}

-- the reads that take a line into their port's cache: ReadShared, ReadClean, ReadNotSharedDirty,
-- ReadUnique and MakeUnique
abbrev pub takes_line : ArKind → Bool
takes_line k = is_fetch k || is_make_unique k

-- the writes that give it up
abbrev pub drops_line : AwKind → Bool
drops_line write.WriteBack = true
drops_line write.WriteEvict = true
drops_line write.Evict = true
drops_line _ = false

-- the transaction takes the line, gives it up
abbrev pub is_take_of : Transaction → ℕ → Bool
is_take_of x l = is_some_and (read_kind x) takes_line && (x.addr == l)

abbrev pub is_drop_of : Transaction → ℕ → Bool
is_drop_of x l = is_some_and (write_kind x) drops_line && (x.addr == l)

-- the event is a G of such a read of the port on the line
abbrev pub takes_at : Trace → Event → ℕ → ℕ → Bool
takes_at past e p l = is_some_and (given past e) (λ x. (x.port == p) && is_take_of x l)

-- the event is a CR of the port on the line with new state I, or a WK of its WriteBack, WriteEvict
-- or Evict on the line
abbrev pub drops_at : Trace → Event → ℕ → ℕ → Bool
drops_at past (Cr q resp st) p l = (p == q) && answers_line past p l && is_invalid st
drops_at past (Wk q st) p l =
    (p == q) && is_some_and (acknowledged past p Write) (λ x. is_drop_of x l)
drops_at past _ p l = false

-- the port had such a G on the line, and since the last of them no such CR and no such WK
abbrev pub may_hold : Trace → ℕ → ℕ → Bool
may_hold [] p l = false
may_hold (e ∷ past) p l = takes_at past e p l || (not (drops_at past e p l) && may_hold past p l)

-- the set of the ACE ports that may hold the line, as a test of ports
abbrev pub kept_ports : Header → Trace → ℕ → ℕ → Bool
kept_ports h past l p = is_ace h p && may_hold past p l

-- the set of each line contains each port whose state of the line isn't I
abbrev pub HoldersAreKept : Header → Trace → Type 0
HoldersAreKept h past = (l p : ℕ) → state_of h past p l ≢ I → kept_ports h past l p ≡ true

-- at every point of the trace
abbrev pub KeepsHolders : Header → Trace → Type 0
KeepsHolders h past = AtEveryPoint (HoldersAreKept h) past
