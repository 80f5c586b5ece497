-- What the write data that are kept of a port say of a trace.
use Rattle.std.specs.Prelude.{ℕ, ◌≡◌, ◌≤◌, ◌<◌, ◌*◌, ◌/◌, not, ◌&&◌, ◌==◌, if◌then◌else◌, List, [], ◌∷◌, ◌++◌, length, take, drop, map, filter, Option, None, vec_capacity}
use Rattle.std.specs.List.{All}
use Rattle.std.specs.VecDeque.{deque_capacity}
use Rattle.ace_event.specs.declared.event.Channel.TheVariants.{Write}
use Rattle.ace_event.specs.declared.event.Event.{Event}
use Rattle.ace_event.specs.declared.event.Event.TheVariants.{W, M}
use Rattle.ace_event.specs.declared.header.Header.{Header}
use Rattle.ace_model.specs.declared.transactions.Transaction.{Transaction}
use Rattle.ace_model.specs.Accepted.{IsAccepted}
use Rattle.ace_model.specs.Trace.{Trace, more}
use Rattle.ace_model.specs.Values.{burst_strobe, burst_line}
use Rattle.ace_model.specs.Writes.{Beat, beats, burst_of, data_writes, next_write, next_write_beat}
use Rattle.ace_portck.specs.declared.target.WriteData.{WriteData}
use Rattle.ace_portck.specs.declared.write_data.Part.{Part}
use Rattle.ace_portck.specs.declared.write_data.Burst.{Burst}
use Rattle.ace_portck.specs.declared.write_data.WriteBursts.{WriteBursts}

-- four numbers: those of the list, and zeros
abbrev pub four : List ℕ → List ℕ
four xs = take 4 (xs ++ 0 ∷ 0 ∷ 0 ∷ 0 ∷ [])

-- what is kept of these beats
pub record IsPart (bs : List Beat) (part : Part) : Type 0 where
  pub beats_are : part.beats ≡ length bs
  pub strobes_are : part.strobes ≡ four (map (λ b. b.strobe) bs)
  pub words_are : part.words ≡ four (map (λ b. b.word) bs)

-- the beats of a burst as one strobe and one line
abbrev pub data_of_burst : List Beat → WriteData
data_of_burst bs = record { strobe = burst_strobe bs; line = burst_line bs }

-- the beats of the port's burst that isn't whole
abbrev pub open_burst : Trace → ℕ → List Beat
open_burst past p = drop (4 * (length (beats past p) / 4)) (beats past p)

-- the write whose burst the event makes whole
abbrev pub filled_at : Trace → Event → ℕ → Option Transaction
filled_at past (W q strb last word) p =
    if (p == q) && (next_write_beat past p == 3) then next_write past p else None
filled_at past _ p = None

-- the port's writes whose bursts are whole and that have had no M
abbrev pub filled : Trace → ℕ → List Transaction
filled [] p = []
filled (M q Write i line ∷ past) p =
    if p == q then filter (λ x. not (x.id == i)) (filled past p) else filled past p
filled (e ∷ past) p = more (filled past p) (filled_at past e p)

-- the burst of a write
abbrev pub burst_as : Trace → Transaction → Burst
burst_as past x = record { id = x.id; sent = data_of_burst (burst_of past x) }

-- The writes whose bursts aren't whole, the beats of the first of them, and the whole bursts. There
-- is room for a write under each identifier.
pub record BurstsStand (h : Header) (past : Trace) (p : ℕ) (filling : List Transaction)
    (part : Part) (whole : List Burst) (filling_room whole_room : ℕ) : Type 0 where
  pub accepted : IsAccepted h past
  pub filling_is : filling ≡ drop (length (beats past p) / 4) (data_writes past p)
  pub part_is : IsPart (open_burst past p) part
  pub whole_is : whole ≡ map (burst_as past) (filled past p)
  pub filling_below : All (λ x. x.id < 256) filling
  pub whole_below : All (λ x. x.id < 256) (filled past p)
  pub filling_fit : 256 ≤ filling_room
  pub whole_fit : 256 ≤ whole_room

abbrev pub WritesStand : Header → Trace → ℕ → WriteBursts → Type 0
WritesStand h past p s =
    BurstsStand h past p s.filling.items s.part s.whole.items (deque_capacity s.filling)
    (vec_capacity s.whole)
