-- What is kept of the DVM messages that each port issues.
use Rattle.std.specs.Prelude.{ℕ, ◌≡◌, Bool, true, false, not, ◌&&◌, ◌||◌, ◌==◌, if◌then◌else◌, length, slice_index_or, Option, Some, None, is_some}
use Rattle.ace_model.specs.declared.transactions.Transaction.{Transaction}
use Rattle.ace_model.specs.Trace.{Trace, implies, is_some_and}
use Rattle.ace_model.specs.Progress.{is_completed}
use Rattle.ace_model.specs.Messages.{is_sync_word, is_message_word, waits_after, first_waiting, last_sync, is_sync_completed}
use Rattle.ace_portck.specs.Targets.{Recording}
use Rattle.ace_sysck.specs.declared.messages.PortMessages.{PortMessages}
use Rattle.ace_sysck.specs.declared.messages.Messages.{Messages}

-- of a port that has issued none
abbrev pub silent : PortMessages
silent = record { first = None; sync = None; sync_done = false; sync_completed = false }

pub record PortMessagesStand (past : Trace) (p : ℕ) (m : PortMessages) : Type 0 where
  pub first : m.first ≡ first_waiting past p
  pub sync : m.sync ≡ last_sync past p
  pub sync_done : (x : Transaction) → last_sync past p ≡ Some x → m.sync_done ≡ is_completed past x
  pub sync_completed : m.sync_completed ≡ is_sync_completed past p

pub record MessagesStand (r : Recording) (s : Messages) : Type 0 where
  pub size : length s.ports.items ≡ r.header.ports
  pub ports : (p : ℕ) → PortMessagesStand r.past p (slice_index_or s.ports.items p silent)

-- the part is a Sync, after what the port has issued
abbrev pub is_new_sync : PortMessages → Transaction → Bool
is_new_sync m x = is_sync_word x.addr && not (is_some m.first)

-- once the port has issued the part
abbrev pub part_issued : PortMessages → Transaction → PortMessages
part_issued m x = record {
  first = waits_after m.first (Some x);
  sync = if is_new_sync m x then Some x else m.sync;
  sync_done = not (is_new_sync m x) && m.sync_done;
  sync_completed = not (is_new_sync m x) && m.sync_completed;
}

-- it is the transaction at the place
abbrev pub is_at : Option Transaction → ℕ → Bool
is_at o place = is_some_and o (λ x. place == x.place)

-- once the transaction at the place is complete
abbrev pub part_completed : PortMessages → ℕ → PortMessages
part_completed m place = record {
  first = m.first;
  sync = m.sync;
  sync_done = is_at m.sync place || m.sync_done;
  sync_completed = m.sync_completed;
}

-- the last Sync is complete and has had no AC DVM Complete
abbrev pub awaits_complete : PortMessages → Bool
awaits_complete m = is_some m.sync && m.sync_done && not m.sync_completed

-- once the Sync has had its AC DVM Complete
abbrev pub told_complete : PortMessages → PortMessages
told_complete m = record m { sync_completed = true }

-- the port may issue the part
abbrev pub is_in_order : PortMessages → Transaction → Bool
is_in_order m x = by m.first
  where
    by : Option Transaction → Bool
    by (Some first) = (x.dom == first.dom) && (x.bar == first.bar)
    by None =
        is_message_word x.addr && implies (is_sync_word x.addr && is_some m.sync) m.sync_completed
