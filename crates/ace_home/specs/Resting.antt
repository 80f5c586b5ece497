-- Ports at rest: each of their outstanding transactions has to wait for an event.
use Rattle.std.specs.Prelude.{ℕ, ◌≡◌, ◌⊎◌, Bool, true, false, not, ◌&&◌, ◌==◌, ◌/◌, ◌%◌, nat_lt, is_some, slice_get}
use Rattle.std.specs.Int.{bit_at}
use Rattle.ace_event.specs.declared.event.Channel.TheVariants.{Read}
use Rattle.ace_event.specs.declared.event.Event.{Event}
use Rattle.ace_event.specs.declared.event.Event.TheVariants.{Ar, R, Rk, Aw, B, Wk, G}
use Rattle.ace_event.specs.declared.header.Header.{Header}
use Rattle.ace_model.specs.declared.transactions.Transaction.{Transaction}
use Rattle.ace_model.specs.Exclusives.{has_failed}
use Rattle.ace_model.specs.Grants.{granted, has_grant}
use Rattle.ace_model.specs.Trace.{Trace, is_some_and}
use Rattle.ace_model.specs.Transactions.{is_ace, takes_grant, transfers}
use Rattle.ace_runs.specs.LineSteps.{is_first_to_wait}
use Rattle.ace_home.specs.declared.line_users.LineUsers.{LineUsers}
use Rattle.ace_home.specs.declared.port_set.PortSet.{PortSet}
use Rattle.ace_home.specs.HeldUp.{IsHeldUp}

-- the port is in the set
abbrev pub has_port : PortSet → ℕ → Bool
has_port s p = nat_lt p 32 && (bit_at s.bits p == 1)

-- which set of ports is that beside the line
abbrev pub set_of : ℕ → ℕ
set_of l = l / 64 % 1024

-- the port is kept beside the line: its transactions may name it
abbrev pub may_name : LineUsers → ℕ → ℕ → Bool
may_name s l p = is_some_and (slice_get s.sets (set_of l)) (λ ports. has_port ports p)

-- The transaction has had no G, and its line is granted to another one.
pub record IsKeptOff (h : Header) (past : Trace) (x : Transaction) : Type 0 where
  pub waits : has_grant past x.port x.chan x.id ≡ false
  pub taken : is_some (granted h past x.addr) ≡ true

-- The transaction has had no G, and an older one that waits for its line goes first.
pub record GoesLater (h : Header) (past : Trace) (x : Transaction) : Type 0 where
  pub waits : has_grant past x.port x.chan x.id ≡ false
  pub later : is_first_to_wait h past x ≡ false

-- It was granted its line, which is held up, and hasn't begun; it is no exclusive store that
-- failed, which begins all the same.
pub record IsUnbegun (h : Header) (past : Trace) (x : Transaction) : Type 0 where
  pub had : has_grant past x.port x.chan x.id ≡ true
  pub held : IsHeldUp h past x.addr
  pub first : x.chan ≡ Read → transfers past x.port x.id ≡ 0
  pub unfailed : has_failed past x ≡ false

-- The home can do nothing for the outstanding transaction: it isn't of a kind that takes a grant,
-- or it waits for the line, which is granted to another one or goes to an older one first, or it
-- waits for answers to snoops.
abbrev pub HasToWait : Header → Trace → Transaction → Type 0
HasToWait h past x =
    (takes_grant x ≡ false) ⊎ (IsKeptOff h past x ⊎ (GoesLater h past x ⊎ IsUnbegun h past x))

-- a transaction of the port begins, is granted or moves on with the event
abbrev pub moves_own : Event → ℕ → Bool
moves_own (Ar q i addr snoop dom bar lock) p = q == p
moves_own (Aw q i addr snoop dom bar) p = q == p
moves_own (R q i resp last word) p = q == p
moves_own (G q c i) p = q == p
moves_own _ p = false

-- a transaction may end with the event
abbrev pub may_end : Header → Event → Bool
may_end h (Rk p st) = true
may_end h (Wk p st) = true
may_end h (R p i resp last word) = last && not (is_ace h p)
may_end h (B p i resp) = not (is_ace h p)
may_end h _ = false
