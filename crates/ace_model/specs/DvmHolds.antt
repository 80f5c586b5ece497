-- A Sync waits for all.
use Rattle.std.specs.Prelude.{ℕ, ◌≡◌, ◌≢◌, ◌<◌, true, [], ◌∷◌, Some, ⊤}
use Rattle.ace_event.specs.declared.event.Event.{Event}
use Rattle.ace_event.specs.declared.header.Header.{Header}
use Rattle.ace_model.specs.declared.transactions.Transaction.{Transaction}
use Rattle.ace_model.specs.Trace.{Trace, at_point}
use Rattle.ace_model.specs.Transactions.{is_ace}
use Rattle.ace_model.specs.Progress.{IsTransaction}
use Rattle.ace_model.specs.Messages.{is_dvm_completion, has_answered, is_message_part, completes_sync, last_sync}

-- port q has answered the Sync, and has issued a DVM Complete after its answer
abbrev pub HasCompleted : Trace → Transaction → ℕ → Type 0
HasCompleted past x q =
    (y : Transaction) × IsTransaction past y × (is_dvm_completion y ≡ true) × (y.port ≡ q)
    × (has_answered (at_point y.place past) x q ≡ true)

-- port q has answered the Sync and every part of the DVM messages that its port issued before it,
-- and has completed the Sync
pub record IsDoneWith (past : Trace) (x : Transaction) (q : ℕ) : Type 0 where
  pub sync : has_answered past x q ≡ true
  pub messages : (y : Transaction) → IsTransaction past y → is_message_part y ≡ true
      → y.port ≡ x.port → y.place < x.place
      → has_answered past y q ≡ true
  pub completed : HasCompleted past x q

-- where the event is an AC DVM Complete to port p, p has issued a Sync, and every other ACE port is
-- done with its last one
abbrev pub IsCompletedAt : Header → Trace → Event → Type 0
IsCompletedAt h past e =
    (p : ℕ) → completes_sync e p ≡ true
    → (x : Transaction) × (last_sync past p ≡ Some x)
    × ((q : ℕ) → is_ace h q ≡ true → q ≢ p → IsDoneWith past x q)

-- At each AC DVM Complete to a port every other ACE port has answered that port's last Sync and
-- every part of every DVM message that the port issued before it, and has issued a DVM Complete
-- after its answer to that Sync.
abbrev pub DvmHolds : Header → Trace → Type 0
DvmHolds h [] = ⊤
DvmHolds h (e ∷ past) = DvmHolds h past × IsCompletedAt h past e
