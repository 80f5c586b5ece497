-- Ports of which no DVM transaction is outstanding.
use Rattle.std.specs.Prelude.{ℕ, Bool, false, ◌||◌, slice_index_or}
use Rattle.std.specs.List.{list_any}
use Rattle.ace_event.specs.declared.event.Channel.TheVariants.{Read}
use Rattle.ace_event.specs.declared.header.Header.{Header}
use Rattle.ace_model.specs.declared.transactions.Transaction.{Transaction}
use Rattle.ace_model.specs.Messages.{is_dvm_completion, is_message_part}
use Rattle.ace_model.specs.Trace.{Trace}
use Rattle.ace_portck.specs.Pending.{pending_of}
use Rattle.ace_order.specs.declared.quiet.QuietPorts.{QuietPorts}

-- a part of a DVM message, or a DVM Complete
abbrev pub is_dvm : Transaction → Bool
is_dvm x = is_message_part x || is_dvm_completion x

-- one of the outstanding reads of the port is such a one
abbrev pub has_dvm : Header → Trace → ℕ → Bool
has_dvm h past p = list_any is_dvm (pending_of h past p Read)

-- the port is taken to have none
abbrev pub is_quiet : QuietPorts → ℕ → Bool
is_quiet s p = slice_index_or s.ports p false
