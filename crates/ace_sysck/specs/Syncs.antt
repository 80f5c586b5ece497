-- What is kept of the Syncs that reach each port, and of its DVM Completes.
use Rattle.std.specs.Prelude.{ℕ, ◌≡◌, ◌<◌, ◌+◌, ◌-◌, ◌^◌, Bool, min, ◌==◌, nat_le, if◌then◌else◌, length, replicate, slice_set, slice_index_or, count_by, Some}
use Rattle.ace_event.specs.declared.header.Header.{Header}
use Rattle.ace_model.specs.declared.transactions.Transaction.{Transaction}
use Rattle.ace_model.specs.Trace.{Trace, implies}
use Rattle.std.specs.List.{list_all}
use Rattle.ace_model.specs.Grants.{ports_below}
use Rattle.ace_model.specs.Messages.{is_sync, parts_for, answered_syncs, dvm_completes, last_sync, sync_number, is_other_ace}
use Rattle.ace_portck.specs.Targets.{Recording}
use Rattle.ace_sysck.specs.declared.syncs.PortSyncs.{PortSyncs}
use Rattle.ace_sysck.specs.declared.syncs.Syncs.{Syncs}

-- of a port that none has reached
abbrev pub untold : PortSyncs
untold = record { reached = 0; answered = 0; completes = 0; numbers = replicate 32 0 }

-- how many Syncs are for the port
abbrev pub syncs_for : Trace → ℕ → ℕ
syncs_for past q = count_by (is_sync past) (parts_for past q)

pub record PortSyncsStand (past : Trace) (q : ℕ) (s : PortSyncs) : Type 0 where
  pub reached : s.reached ≡ syncs_for past q
  pub answered : s.answered ≡ answered_syncs past q
  pub completes : s.completes ≡ dvm_completes past q
  pub table : length s.numbers ≡ 32
  pub numbers : (p : ℕ) (x : Transaction) → p < 32 → last_sync past p ≡ Some x
      → slice_index_or s.numbers p 0 ≡ sync_number past x q

pub record SyncsStand (r : Recording) (s : Syncs) : Type 0 where
  pub size : length s.ports.items ≡ r.header.ports
  pub ports : (q : ℕ) → q < r.header.ports
      → PortSyncsStand r.past q (slice_index_or s.ports.items q untold)

-- one more, up to the greatest number
abbrev pub next_count : ℕ → ℕ
next_count n = min (n + 1) (2 ^ 64 - 1)

-- once a Sync of the sender is for the port; it isn't, where this is the sender
abbrev pub reached_by : PortSyncs → ℕ → Bool → PortSyncs
reached_by s sender own = record {
  reached = if own then s.reached else next_count s.reached;
  answered = s.answered;
  completes = s.completes;
  numbers = slice_set s.numbers sender (next_count s.reached);
}

-- once the port has answered a Sync, and once it has issued a DVM Complete
abbrev pub one_answered : PortSyncs → PortSyncs
one_answered s = record s { answered = next_count s.answered }

abbrev pub one_completed : PortSyncs → PortSyncs
one_completed s = record s { completes = next_count s.completes }

-- what is kept of each port once the sender has issued a Sync
pub record ReachesAll (sender : ℕ) (s n : Syncs) : Type 0 where
  pub size : length n.ports.items ≡ length s.ports.items
  pub each : (q : ℕ) → q < length s.ports.items
      → slice_index_or n.ports.items q untold
      ≡ reached_by (slice_index_or s.ports.items q untold) sender (q == sender)

-- every other ACE port has issued as many DVM Completes as the number that the port's last Sync has
-- for it
abbrev pub completes_all : Header → Syncs → ℕ → Bool
completes_all h s p =
    list_all
    (λ q. implies (is_other_ace h p q)
    (nat_le (slice_index_or (slice_index_or s.ports.items q untold).numbers p 0)
    (slice_index_or s.ports.items q untold).completes))
    (ports_below h.ports)
