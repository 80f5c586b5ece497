-- Barriers. A barrier is a pair of address events, one on each channel: the k-th AR Barrier and the
-- k-th AW Barrier of a port (Arm IHI 0022E, C8). Its place among the port's transactions is the
-- later of the two (our choice).
use Rattle.std.specs.Prelude.{ℕ, max, Bool, ◌&&◌, ◌||◌, ◌==◌, nat_lt, if◌then◌else◌, List, [], ◌∷◌, length, slice_get, Option}
use Rattle.ace_event.specs.declared.event.Channel.{Channel}
use Rattle.ace_event.specs.declared.event.Channel.TheVariants.{Read, Write}
use Rattle.ace_model.specs.declared.transactions.Transaction.{Transaction}
use Rattle.ace_model.specs.Trace.{is_some_and, Trace, at_point, implies}
use Rattle.ace_model.specs.Kinds.{is_read_barrier, is_write_barrier}
use Rattle.ace_model.specs.Transactions.{read_kind, write_kind, same_channel, issued_where, is_line}
use Rattle.ace_model.specs.Progress.{is_completed, is_ordered, each_issued}

abbrev pub is_barrier_half : Transaction → Bool
is_barrier_half x =
    is_some_and (read_kind x) is_read_barrier || is_some_and (write_kind x) is_write_barrier

abbrev pub is_barrier_of : Transaction → ℕ → Channel → Bool
is_barrier_of x p c = is_barrier_half x && (x.port == p) && same_channel x.chan c

-- the port's barrier halves on the channel, in order
abbrev pub barriers : Trace → ℕ → Channel → List Transaction
barriers past p c = issued_where past (λ x. is_barrier_of x p c)

-- a barrier with both halves
pub record Pair : Type 0 where
  pub read : Transaction
  pub write : Transaction

abbrev pub paired : List Transaction → List Transaction → List Pair
paired [] ws = []
paired (r ∷ rs) [] = []
paired (r ∷ rs) (w ∷ ws) = record { read = r; write = w } ∷ paired rs ws

-- the port's barrier pairs, in order
abbrev pub pairs : Trace → ℕ → List Pair
pairs past p = paired (barriers past p Read) (barriers past p Write)

-- how many events came before the later half
abbrev pub place_of : Pair → ℕ
place_of b = max b.read.place b.write.place

-- the pair has had its R and its B
abbrev pub is_pair_complete : Trace → Pair → Bool
is_pair_complete past b = is_completed past b.read && is_completed past b.write

-- which of the port's barrier halves on its channel it is, from 0
abbrev pub number_of : Trace → Transaction → ℕ
number_of past x = length (barriers (at_point x.place past) x.port x.chan)

abbrev pub other_channel : Channel → Channel
other_channel Read = Write
other_channel Write = Read

-- the other half of the barrier, if it was issued
abbrev pub partner_of : Trace → Transaction → Option Transaction
partner_of past x = slice_get (barriers past x.port (other_channel x.chan)) (number_of past x)

-- the pair of a barrier half, if both were issued
abbrev pub pair_of : Trace → Transaction → Option Pair
pair_of past x = slice_get (pairs past x.port) (number_of past x)

-- it is a synchronisation barrier; the others are memory barriers
abbrev pub is_synchronisation : Pair → Bool
is_synchronisation b = b.read.bar == 3

-- a line transaction of the port with bar 0 before the barrier: one that the barrier orders
abbrev pub is_before : Transaction → ℕ → Pair → Bool
is_before x p b = (x.port == p) && is_line x && (x.bar == 0) && nat_lt x.place (place_of b)

-- what the barrier has to wait for of such a transaction: its order point, and that it is complete
-- if the barrier is a synchronisation barrier
abbrev pub is_awaited : Trace → Pair → Transaction → Bool
is_awaited past b x = if is_synchronisation b then is_completed past x else is_ordered past x

-- everything before the barrier has come far enough
abbrev pub may_answer : Trace → ℕ → Pair → Bool
may_answer past p b = each_issued past (λ x. implies (is_before x p b) (is_awaited past b x))
