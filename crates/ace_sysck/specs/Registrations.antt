-- What is kept of the monitor of the interconnect.
use Rattle.std.specs.Prelude.{ℕ, ◌≡◌, Bool, true, false, ◌&&◌, ◌||◌, ◌==◌, nat_eq, if◌then◌else◌, [], ◌∷◌, Option, Some, None, IsSome, unwrap_or}
use Rattle.std.specs.Int.{bit_at}
use Rattle.indexmap.specs.IndexMap.{get}
use Rattle.ace_event.specs.declared.event.Event.{Event}
use Rattle.ace_event.specs.declared.event.Event.TheVariants.{G}
use Rattle.ace_model.specs.declared.transactions.Transaction.{Transaction}
use Rattle.ace_model.specs.Trace.{Trace, is_some_and}
use Rattle.ace_model.specs.Transactions.{is_line, is_on, is_exclusive_store}
use Rattle.ace_model.specs.Grants.{given}
use Rattle.ace_model.specs.Exclusives.{is_registered}
use Rattle.ace_portck.specs.declared.target.Progress.{Progress}
use Rattle.ace_portck.specs.Target.{Target}
use Rattle.ace_portck.specs.Targets.{Recording}
use Rattle.ace_sysck.specs.declared.registrations.Registrations.{Registrations}

-- the event grants the line to a transaction with lock 1
abbrev pub grants_locked : Trace → Event → ℕ → Bool
grants_locked past e l = is_some_and (given past e) (λ x. x.lock && is_on x l)

-- a transaction with lock 1 was granted the line
abbrev pub was_locked : Trace → ℕ → Bool
was_locked [] l = false
was_locked (e ∷ past) l = grants_locked past e l || was_locked past l

-- the line transaction with lock 1 of the target
abbrev pub locked_of : Option Progress → Option Transaction
locked_of None = None
locked_of (Some x) =
    if x.transaction.lock && is_line x.transaction then Some x.transaction else None

-- the transaction with lock 1 to which the event grants a line
abbrev pub locked_in : Event → Target → Option Transaction
locked_in (G p c i) t = locked_of t.transaction
locked_in _ t = None

-- the ports that are registered for the line, as bits
abbrev pub registered_bits : Registrations → ℕ → ℕ
registered_bits s l = unwrap_or (get nat_eq s.lines l) 0

-- those of the ports whose registrations the G of the transaction doesn't end
abbrev pub kept_bits : Transaction → ℕ → ℕ
kept_bits x bits = if is_exclusive_store x && (bit_at bits x.port == 1) then 0 else bits

pub record RegistrationsStand (r : Recording) (s : Registrations) : Type 0 where
  pub lines : (p l : ℕ) → (bit_at (registered_bits s l) p == 1) ≡ is_registered r.past p l
  pub known : (l : ℕ) → was_locked r.past l ≡ true → IsSome (get nat_eq s.lines l)

-- the event grants a line to a transaction with lock 1 for the first time
abbrev pub IsNewLock : Trace → Event → Type 0
IsNewLock past e = (l : ℕ) × (grants_locked past e l ≡ true) × (was_locked past l ≡ false)
