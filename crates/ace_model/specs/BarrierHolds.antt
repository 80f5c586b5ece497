-- A barrier orders.
use Rattle.std.specs.Prelude.{ℕ, ◌≡◌, ◌<◌, true, [], ◌∷◌, slice_get, Some, ⊤}
use Rattle.ace_event.specs.declared.event.Event.{Event}
use Rattle.ace_model.specs.declared.transactions.Transaction.{Transaction}
use Rattle.ace_model.specs.Trace.{Trace}
use Rattle.ace_model.specs.Progress.{is_ordered, is_completed, IsTransaction}
use Rattle.ace_model.specs.Grants.{given}
use Rattle.ace_model.specs.Barriers.{Pair, pairs, is_synchronisation, place_of, is_before}

abbrev pub IsPairOf : Trace → ℕ → Pair → Type 0
IsPairOf past p b = (k : ℕ) × (slice_get (pairs past p) k ≡ Some b)

-- an earlier line transaction of the port with bar 0 is ordered before what comes now: it has had
-- its order point (its G, or its M for a memory update; an Evict has none), and for a
-- synchronisation barrier it is complete, an Evict too
abbrev pub IsOrderedBy : Trace → Pair → Transaction → Type 0
IsOrderedBy past b x =
    (is_ordered past x ≡ true) × (is_synchronisation b ≡ true → is_completed past x ≡ true)

-- the event, where it grants a transaction with bar 0 after a barrier of its port, comes after all
-- that the barrier orders
abbrev pub IsOrderedAt : Trace → Event → Type 0
IsOrderedAt past e =
    (later x : Transaction) (b : Pair) → given past e ≡ Some later → later.bar ≡ 0
    → IsPairOf past later.port b → place_of b < later.place
    → IsTransaction past x → is_before x later.port b ≡ true → IsOrderedBy past b x

-- Take a barrier pair of a port, an earlier line transaction of the port with bar 0, and a later
-- transaction of the port with bar 0. The order point of the earlier one comes before the G of the
-- later one; for a synchronisation barrier the earlier one is then complete.
abbrev pub BarrierHolds : Trace → Type 0
BarrierHolds [] = ⊤
BarrierHolds (e ∷ past) = BarrierHolds past × IsOrderedAt past e
