-- What the queues of the snoops of a port say of a trace.
use Rattle.std.specs.Prelude.{ℕ, ◌≡◌, ◌≤◌, ◌<◌, ◌+◌, ◌*◌, ◌/◌, List, length, drop, ⊤}
use Rattle.std.specs.VecDeque.{deque_capacity}
use Rattle.ace_event.specs.declared.event.Event.{Event}
use Rattle.ace_event.specs.declared.event.Event.TheVariants.{Ac}
use Rattle.ace_model.specs.declared.snoops.Snoop.{Snoop}
use Rattle.ace_model.specs.Trace.{Trace}
use Rattle.ace_model.specs.Snoops.{answers, snoops_of, data_beats}
use Rattle.ace_model.specs.Replies.{next_sent_beat}
use Rattle.ace_portck.specs.declared.snoops.SnoopQueues.{SnoopQueues}
use Rattle.ace_portck.specs.Targets.{data_snoops}
use Rattle.ace_portck.specs.Unfinished.{most_unfinished}

-- The snoops of the port without an answer, those whose data aren't whole, and the beats of the
-- first of these. Each queue has room for as many as ever were under way, so that an answer moves a
-- snoop from one to the other without memory.
pub record QueuesStand (past : Trace) (p : ℕ) (waiting sending : List Snoop)
    (beats waiting_room sending_room : ℕ) : Type 0 where
  pub waiting_is : waiting ≡ drop (answers past p) (snoops_of past p)
  pub sending_is : sending ≡ drop (data_beats past p / 4) (data_snoops past p)
  pub beats_are : beats ≡ next_sent_beat past p
  pub answers_within : answers past p ≤ length (snoops_of past p)
  pub beats_within : data_beats past p ≤ 4 * length (data_snoops past p)
  pub waiting_fit : most_unfinished past p ≤ waiting_room
  pub sending_fit : most_unfinished past p ≤ sending_room

abbrev pub SnoopsStand : Trace → ℕ → SnoopQueues → Type 0
SnoopsStand past p s =
    QueuesStand past p s.waiting.items s.sending.items s.beats (deque_capacity s.waiting)
    (deque_capacity s.sending)

-- each queue has room for all that are under way and one more
abbrev pub HasRoomForOne : SnoopQueues → Type 0
HasRoomForOne s =
    (length s.waiting.items + length s.sending.items < deque_capacity s.waiting)
    × (length s.waiting.items + length s.sending.items < deque_capacity s.sending)

-- each queue has room for so many snoops
pub record IsRoomy (snoops : ℕ) (s : SnoopQueues) : Type 0 where
  pub waiting : snoops ≤ deque_capacity s.waiting
  pub sending : snoops ≤ deque_capacity s.sending

-- there is room for the event
abbrev pub HasRoom : SnoopQueues → Event → Type 0
HasRoom s (Ac p addr snoop) = HasRoomForOne s
HasRoom s _ = ⊤
