-- When an event may be heard beside the ports, and what is kept then.
use Rattle.std.specs.Prelude.{ℕ, ◌≡◌, ◌≤◌, ◌<◌, ◌-◌, ◌^◌, false, Some, None, length}
use Rattle.ace_event.specs.declared.event.Event.{Event}
use Rattle.ace_model.specs.Accepted.{least_broken}
use Rattle.ace_model.specs.Barriers.{is_barrier_half}
use Rattle.ace_model.specs.Lines.{known_lines}
use Rattle.ace_model.specs.Messages.{is_dvm_completion, is_message_part}
use Rattle.ace_model.specs.Trace.{Trace}
use Rattle.ace_model.specs.Transactions.{issued}
use Rattle.ace_model.specs.declared.transactions.Transaction.{Transaction}
use Rattle.ace_portck.specs.declared.ports.PortCheck.{PortCheck}
use Rattle.ace_portck.specs.Stands as of_ports
use Rattle.ace_portck.specs.Targets.{Recording, after}
use Rattle.ace_sysck.specs.declared.system.SysCheck.{SysCheck}
use Rattle.ace_sysck.specs.Stands.{Stands, IsRoomy}

-- The event may be next: it breaks no rule, what is kept of the ports stands for the recording too,
-- and there is room for all lines that are known.
pub record MayHear (s : SysCheck) (p : PortCheck) (r : Recording) (n : ℕ) (e : Event) : Type 0 where
  pub stands : Stands s r
  pub ports : of_ports.Stands p r
  pub room : IsRoomy n r.past s
  pub few_lines : length (known_lines r.past) ≤ n
  pub kept : least_broken r.header r.past e ≡ None
  pub few : length r.past < 2 ^ 64 - 1

-- What is kept stands for the recording, with room for so many lines.
pub record StandsRoomy (s : SysCheck) (r : Recording) (n : ℕ) : Type 0 where
  pub stands : Stands s r
  pub room : IsRoomy n r.past s

-- What was kept hears the event, and this is kept then.
abbrev pub Hears : SysCheck → PortCheck → Event → SysCheck → Type 0
Hears s p e new = (n : ℕ) (r : Recording) → MayHear s p r n e → StandsRoomy new (after r e) n

-- After the trace, the event issues the transaction, which is neither half of a barrier nor a read
-- of DVM.
pub record BeginsLine (past : Trace) (e : Event) (x : Transaction) : Type 0 where
  pub issues : issued (length past) e ≡ Some x
  pub half : is_barrier_half x ≡ false
  pub part : is_message_part x ≡ false
  pub completion : is_dvm_completion x ≡ false
