-- What is kept of the barriers of each port.
use Rattle.std.specs.Prelude.{ℕ, ◌≡◌, ◌<◌, Bool, true, false, not, max, ◌&&◌, ◌||◌, ◌==◌, nat_le, if◌then◌else◌, List, [], ◌∷◌, ◌++◌, length, map, slice_get, slice_index_or, Option, Some, None, ⊤}
use Rattle.std.specs.List.{All}
use Rattle.std.specs.Option.{option_map}
use Rattle.ace_event.specs.declared.event.Channel.TheVariants.{Read, Write}
use Rattle.ace_model.specs.declared.transactions.Transaction.{Transaction}
use Rattle.ace_model.specs.Trace.{Trace}
use Rattle.ace_model.specs.Transactions.{is_read}
use Rattle.ace_model.specs.Progress.{is_completed}
use Rattle.ace_model.specs.AddressRules.{is_like_half}
use Rattle.ace_model.specs.Barriers.{Pair, barriers, pairs, is_pair_complete, may_answer, place_of}
use Rattle.ace_portck.specs.Targets.{Recording}
use Rattle.ace_sysck.specs.declared.barriers.OpenPair.{OpenPair}
use Rattle.ace_sysck.specs.declared.barriers.Barrier.{Barrier}
use Rattle.ace_sysck.specs.declared.barriers.Barrier.TheVariants.{Idle, ReadHalf, WriteHalf, Open}
use Rattle.ace_sysck.specs.declared.barriers.Barriers.{Barriers}

-- the halves of a barrier on each channel
abbrev pub reads_of : Barrier → List Transaction
reads_of Idle = []
reads_of (ReadHalf x) = x ∷ []
reads_of (WriteHalf x) = []
reads_of (Open b) = b.read ∷ []

abbrev pub writes_of : Barrier → List Transaction
writes_of Idle = []
writes_of (ReadHalf x) = []
writes_of (WriteHalf x) = x ∷ []
writes_of (Open b) = b.write ∷ []

abbrev pub read_half : Pair → Transaction
read_half b = b.read

abbrev pub write_half : Pair → Transaction
write_half b = b.write

abbrev pub pair_in : OpenPair → Pair
pair_in b = record { read = b.read; write = b.write }

-- the pair is complete, what is before it has come far enough, and it came before
pub record IsDone (past : Trace) (p : ℕ) (b : Pair) : Type 0 where
  pub complete : is_pair_complete past b ≡ true
  pub answered : may_answer past p b ≡ true
  pub placed : place_of b < length past

pub record IsOpen (past : Trace) (b : OpenPair) : Type 0 where
  pub read : is_completed past b.read ≡ b.read_answered
  pub write : is_completed past b.write ≡ b.write_answered
  pub open_still : (b.read_answered && b.write_answered) ≡ false

-- a half without its partner isn't complete, and of an open pair not both halves are
abbrev pub IsUnderWay : Trace → Barrier → Type 0
IsUnderWay past Idle = ⊤
IsUnderWay past (ReadHalf x) = is_completed past x ≡ false
IsUnderWay past (WriteHalf x) = is_completed past x ≡ false
IsUnderWay past (Open b) = IsOpen past b

-- the halves of the port are those of pairs that are done, and then those of the barrier
pub record BarrierStands (past : Trace) (p : ℕ) (b : Barrier) : Type 0 where
  pub done : List Pair
  pub reads : barriers past p Read ≡ map read_half done ++ reads_of b
  pub writes : barriers past p Write ≡ map write_half done ++ writes_of b
  pub are_done : All (IsDone past p) done
  pub under_way : IsUnderWay past b

-- the pair, where there is one
abbrev pub open_of : Barrier → Option OpenPair
open_of (Open b) = Some b
open_of b = None

-- What is said of the pair of the port that isn't complete: it is one of its pairs, has had the
-- responses that it says, and is the only one.
pub record TellsOpenPair (past : Trace) (p : ℕ) (o : Option OpenPair) : Type 0 where
  pub there : (b : OpenPair) → o ≡ Some b
      → (k : ℕ) × (slice_get (pairs past p) k ≡ Some (pair_in b))
  pub is : (b : OpenPair) → o ≡ Some b → IsOpen past b
  pub only : (k : ℕ) (b : Pair) → slice_get (pairs past p) k ≡ Some b
      → is_pair_complete past b ≡ false → option_map pair_in o ≡ Some b

pub record BarriersStand (r : Recording) (s : Barriers) : Type 0 where
  pub size : length s.ports.items ≡ r.header.ports
  pub ports : (p : ℕ) → BarrierStands r.past p (slice_index_or s.ports.items p Idle)

-- an accepted trace may go on with the transaction as the next that is issued
pub record MayBegin (r : Recording) (s : Barriers) (x : Transaction) : Type 0 where
  pub stands : BarriersStand r s
  pub place : x.place ≡ length r.past

-- a port with this barrier may issue the half
abbrev pub begins_after : Barrier → Transaction → Bool
begins_after Idle x = true
begins_after (ReadHalf y) x = not (is_read x.chan) && is_like_half x y
begins_after (WriteHalf y) x = is_read x.chan && is_like_half x y
begins_after (Open b) x = false

-- a pair of which neither half is answered
abbrev pub opened : Transaction → Transaction → Barrier
opened read write =
    Open (record { read = read; write = write; read_answered = false; write_answered = false })

-- the barrier once the port has issued the half
abbrev pub joined : Barrier → Transaction → Barrier
joined Idle x = if is_read x.chan then ReadHalf x else WriteHalf x
joined (ReadHalf y) x = if is_read x.chan then ReadHalf y else opened y x
joined (WriteHalf y) x = if is_read x.chan then opened x y else WriteHalf y
joined (Open b) x = Open b

-- the pair, once the transaction at the place is complete
abbrev pub answered_at : OpenPair → ℕ → OpenPair
answered_at b place = record {
  read = b.read;
  write = b.write;
  read_answered = (place == b.read.place) || b.read_answered;
  write_answered = (place == b.write.place) || b.write_answered;
}

abbrev pub unless_complete : OpenPair → Barrier
unless_complete b = if b.read_answered && b.write_answered then Idle else Open b

-- the barrier once the transaction at the place is complete
abbrev pub answered : Barrier → ℕ → Barrier
answered (Open b) place = unless_complete (answered_at b place)
answered b place = b

-- no transaction before the place is awaited, where this is the first that is
abbrev pub is_awaited_by : ℕ → Option ℕ → Bool
is_awaited_by place None = true
is_awaited_by place (Some first) = nat_le place first

-- what is before the pair has come far enough, by the first transaction without its order point and
-- the first that isn't complete
abbrev pub comes_far_enough : OpenPair → Option ℕ → Option ℕ → Bool
comes_far_enough b unordered incomplete =
    is_awaited_by (max b.read.place b.write.place)
    (if b.read.bar == 3 then incomplete else unordered)

-- the half may be answered
abbrev pub may_answer_after : Barrier → Option ℕ → Option ℕ → Transaction → Bool
may_answer_after Idle u n x = true
may_answer_after (ReadHalf y) u n x = not (x.place == y.place)
may_answer_after (WriteHalf y) u n x = not (x.place == y.place)
may_answer_after (Open b) u n x =
    (not (x.place == b.read.place) && not (x.place == b.write.place)) || comes_far_enough b u n

-- no pair that isn't complete is before the transaction, where barriers order it
abbrev pub is_past : Barrier → Transaction → Bool
is_past (Open b) x = not (x.bar == 0) || nat_le x.place (max b.read.place b.write.place)
is_past b x = true
