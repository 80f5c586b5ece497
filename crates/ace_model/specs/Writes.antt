-- Write data. W has no identifier: the beats of a port belong to its writes with data in the order
-- of their AW, four beats to each (Arm IHI 0022E, A5.3).
use Rattle.std.specs.Prelude.{ℕ, ◌*◌, ◌/◌, ◌%◌, Bool, false, ◌&&◌, ◌==◌, nat_lt, if◌then◌else◌, List, [], ◌∷◌, Option, Some, None, length, take, drop, slice_get}
use Rattle.ace_event.specs.declared.event.Channel.{Channel}
use Rattle.ace_event.specs.declared.event.Event.{Event}
use Rattle.ace_event.specs.declared.event.Event.TheVariants.{W, M}
use Rattle.ace_model.specs.declared.transactions.Transaction.{Transaction}
use Rattle.ace_model.specs.Trace.{Trace, at_point, is_some_and, more}
use Rattle.ace_model.specs.Kinds.{has_write_data}
use Rattle.ace_model.specs.Transactions.{issued_where, write_kind, has_since, same_channel}

-- it is a write of the port with data
abbrev pub is_data_write_of : ℕ → Transaction → Bool
is_data_write_of p x = (x.port == p) && is_some_and (write_kind x) has_write_data

-- the port's writes with data, in the order of their AW
abbrev pub data_writes : Trace → ℕ → List Transaction
data_writes past p = issued_where past (is_data_write_of p)

-- a beat of write data: WSTRB and WDATA
pub record Beat : Type 0 where
  pub strobe : ℕ
  pub word : ℕ

-- the port's beat with the event, where it has a write for it, after these beats of these writes
-- with data
abbrev pub beat_at : List Beat → List Transaction → Event → ℕ → Option Beat
beat_at before writes (W q strb last word) p =
    if (p == q) && nat_lt (length before) (4 * length writes)
    then Some (record { strobe = strb; word = word }) else None
beat_at before writes _ p = None

abbrev pub add_beat : List Beat → List Transaction → Event → ℕ → List Beat
add_beat before writes e p = more before (beat_at before writes e p)

-- the port's beats of write data, in order
abbrev pub beats : Trace → ℕ → List Beat
beats [] p = []
beats (e ∷ past) p = add_beat (beats past p) (data_writes past p) e p

-- the write that the port's next W belongs to, and which of its beats that is, from 0
abbrev pub next_write : Trace → ℕ → Option Transaction
next_write past p = slice_get (data_writes past p) (length (beats past p) / 4)

abbrev pub next_write_beat : Trace → ℕ → ℕ
next_write_beat past p = length (beats past p) % 4

-- the beats so far of a write with data: four for each of the port's earlier ones come first
abbrev pub burst_of : Trace → Transaction → List Beat
burst_of past x =
    take 4 (drop (4 * length (data_writes (at_point x.place past) x.port)) (beats past x.port))

abbrev pub is_burst_whole : Trace → Transaction → Bool
is_burst_whole past x = length (burst_of past x) == 4

-- the event writes memory for the port's transaction on the channel under the identifier
abbrev pub is_memory_write : Event → ℕ → Channel → ℕ → Bool
is_memory_write (M q d j line) p c i = (p == q) && same_channel c d && (i == j)
is_memory_write _ p c i = false

-- the port's last transaction on the channel under the identifier has had its M
abbrev pub has_memory_write : Trace → ℕ → Channel → ℕ → Bool
has_memory_write past p c i = has_since (λ before. is_memory_write) past p c i
