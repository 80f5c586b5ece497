-- What an event after a trace belongs to.
use Rattle.std.specs.Prelude.{ℕ, Bool, false, not, ◌&&◌, ◌==◌, if◌then◌else◌, List, [], ◌∷◌, length, slice_get, ◌/◌, Option, Some, None, unwrap_or, option_map, option_and_then}
use Rattle.ace_event.specs.declared.event.Channel.TheVariants.{Read, Write}
use Rattle.ace_event.specs.declared.event.Event.{Event}
use Rattle.ace_event.specs.declared.event.Event.TheVariants.{Ar, R, Rk, Aw, W, B, Wk, Ac, Cr, Cd, G, M, S, L, D, Mem}
use Rattle.ace_event.specs.declared.header.Header.{Header}
use Rattle.ace_codes.specs.Responses.{transfers_data}
use Rattle.ace_model.specs.declared.snoops.Snoop.{Snoop}
use Rattle.ace_model.specs.declared.transactions.Transaction.{Transaction}
use Rattle.ace_model.specs.Trace.{Trace, more, is_some_and}
use Rattle.ace_model.specs.Kinds.{has_write_data}
use Rattle.ace_model.specs.Transactions.{is_ace, is_read, is_line, write_kind, issued, outstanding, acknowledged, transfers, first_resp, is_complete, is_outstanding_on}
use Rattle.ace_model.specs.Progress.{is_completed, is_ordered}
use Rattle.ace_model.specs.Snoops.{snoop_at, answered, data_beats, snoops_a_line}
use Rattle.ace_model.specs.Writes.{next_write, next_write_beat, burst_of, is_burst_whole, has_memory_write}
use Rattle.ace_model.specs.Grants.{has_grant}
use Rattle.ace_model.specs.States.{has_store}
use Rattle.ace_model.specs.Replies.{next_sent_beat}
use Rattle.ace_model.specs.Values.{burst_strobe, burst_line}
use Rattle.ace_model.specs.Barriers.{is_barrier_half}
use Rattle.ace_portck.specs.declared.target.Progress.{Progress}
use Rattle.ace_portck.specs.declared.target.WriteData.{WriteData}
use Rattle.ace_portck.specs.Target.{Target}

-- A trace under its header, as far as it was recorded: the newest event first.
pub record Recording : Type 0 where
  pub header : Header
  pub past : Trace

-- the recording with one more event
abbrev pub after : Recording → Event → Recording
after r e = record { header = r.header; past = e ∷ r.past }

-- a transaction that has just been issued
abbrev pub begun : Transaction → Progress
begun x = record {
  transaction = x;
  transfers = 0;
  response = 0;
  complete = false;
  granted = false;
  written = false;
  stored = false;
}

-- how far an outstanding transaction has come
abbrev pub progress_of : Header → Trace → Transaction → Progress
progress_of h past x = record {
  transaction = x;
  transfers = if is_read x.chan then transfers past x.port x.id else 0;
  response = if is_read x.chan then unwrap_or (first_resp past x.port x.id) 0 else 0;
  complete = is_complete past x.port x.chan x.id;
  granted = has_grant past x.port x.chan x.id;
  written = has_memory_write past x.port x.chan x.id;
  stored = is_read x.chan && has_store h past x.port x.id;
}

-- The transaction that the event belongs to. An RK or WK of an ACE-Lite port belongs to none.
abbrev pub served_in : Header → Trace → Event → Option Transaction
served_in h past (R p i resp last word) = outstanding h past p Read i
served_in h past (B p i resp) = outstanding h past p Write i
served_in h past (G p c i) = outstanding h past p c i
served_in h past (M p c i line) = outstanding h past p c i
served_in h past (Rk p st) = if is_ace h p then acknowledged past p Read else None
served_in h past (Wk p st) = if is_ace h p then acknowledged past p Write else None
served_in h past (W p strb last word) = next_write past p
served_in h past _ = None

-- the transaction that the event begins or belongs to
abbrev pub transaction_in : Header → Trace → Event → Option Progress
transaction_in h past (Ar p i addr snoop dom bar lock) =
    option_map begun (issued (length past) (Ar p i addr snoop dom bar lock))
transaction_in h past (Aw p i addr snoop dom bar) =
    option_map begun (issued (length past) (Aw p i addr snoop dom bar))
transaction_in h past e = option_map (progress_of h past) (served_in h past e)

-- the snoop that the port answers with data by the event
abbrev pub data_snoop_at : Trace → Event → ℕ → Option Snoop
data_snoop_at past (Cr q resp st) p =
    if (p == q) && transfers_data resp then answered past p else None
data_snoop_at past _ p = None

-- the snoops that the port has answered with data, in order; its CD events send the data, four
-- beats to each
abbrev pub data_snoops : Trace → ℕ → List Snoop
data_snoops [] p = []
data_snoops (e ∷ past) p = more (data_snoops past p) (data_snoop_at past e p)

-- the snoop that the port's next CD sends data for
abbrev pub sending : Trace → ℕ → Option Snoop
sending past p = slice_get (data_snoops past p) (data_beats past p / 4)

-- the snoop that the event begins, answers, or sends data for
abbrev pub snoop_in : Trace → Event → Option Snoop
snoop_in past (Ac p addr snoop) = snoop_at (length past) (Ac p addr snoop) p
snoop_in past (Cr p resp st) = answered past p
snoop_in past (Cd p last word) = sending past p
snoop_in past _ = None

-- the line of a line transaction
abbrev pub line_of : Option Progress → Option ℕ
line_of None = None
line_of (Some x) = if is_line x.transaction then Some x.transaction.addr else None

-- the line of a line snoop
abbrev pub line_of_snoop : Option Snoop → Option ℕ
line_of_snoop None = None
line_of_snoop (Some s) = if snoops_a_line s.snoop then Some s.addr else None

-- the line that the event names, or that what it belongs to names
abbrev pub line_in : Header → Trace → Event → Option ℕ
line_in h past (S p addr st) = Some addr
line_in h past (L p addr w x word) = Some addr
line_in h past (D p addr strobe x line) = Some addr
line_in h past (Mem addr line) = Some addr
line_in h past (Ac p addr snoop) = line_of_snoop (snoop_in past (Ac p addr snoop))
line_in h past (Cr p resp st) = line_of_snoop (snoop_in past (Cr p resp st))
line_in h past (Cd p last word) = line_of_snoop (snoop_in past (Cd p last word))
line_in h past e = line_of (transaction_in h past e)

-- the last transaction of the trace that passes the test
abbrev pub last_issued : Trace → (Transaction → Bool) → Option Transaction
last_issued [] test = None
last_issued (e ∷ past) test =
    if is_some_and (issued (length past) e) test then issued (length past) e
    else last_issued past test

-- the port's outstanding transaction on the line
abbrev pub own_of : Header → Trace → ℕ → ℕ → Option Transaction
own_of h past p l = last_issued past (is_outstanding_on h past p l)

abbrev pub own_on : Header → Trace → ℕ → Option ℕ → Option Progress
own_on h past p None = None
own_on h past p (Some l) = option_map (progress_of h past) (own_of h past p l)

-- the outstanding transaction of the port of an S, L, D, AC or CR on the line of the event
abbrev pub own_in : Header → Trace → Event → Option Progress
own_in h past (S p addr st) = own_on h past p (Some addr)
own_in h past (L p addr w x word) = own_on h past p (Some addr)
own_in h past (D p addr strobe x line) = own_on h past p (Some addr)
own_in h past (Ac p addr snoop) = own_on h past p (line_in h past (Ac p addr snoop))
own_in h past (Cr p resp st) = own_on h past p (line_in h past (Cr p resp st))
own_in h past _ = None

-- which beat of its burst a W or CD is, from 0
abbrev pub beat_in : Trace → Event → ℕ
beat_in past (W p strb last word) = next_write_beat past p
beat_in past (Cd p last word) = next_sent_beat past p
beat_in past _ = 0

-- the burst of a write with data, where it is whole and the write has had no M
abbrev pub data_of_write : Trace → Transaction → Option WriteData
data_of_write past x =
    if is_some_and (write_kind x) has_write_data && is_burst_whole past x
    && not (has_memory_write past x.port x.chan x.id)
    then
    Some (record { strobe = burst_strobe (burst_of past x); line = burst_line (burst_of past x) })
    else None

abbrev pub data_in : Header → Trace → Event → Option WriteData
data_in h past (M p c i line) = option_and_then (data_of_write past) (outstanding h past p c i)
data_in h past _ = None

-- the place of the first transaction of the trace that passes the test
abbrev pub first_issued : Trace → (Transaction → Bool) → Option ℕ
first_issued [] test = None
first_issued (e ∷ past) test = or_newest (first_issued past test)
  where
    or_newest : Option ℕ → Option ℕ
    or_newest (Some n) = Some n
    or_newest None = if is_some_and (issued (length past) e) test then Some (length past) else None

-- a line transaction of the port with bar 0: one that barriers order
abbrev pub is_ordered_by_barriers : ℕ → Transaction → Bool
is_ordered_by_barriers p x = (x.port == p) && is_line x && (x.bar == 0)

-- the port's oldest such transaction without its order point; that isn't complete
abbrev pub first_unordered : Trace → ℕ → Option ℕ
first_unordered past p =
    first_issued past (λ x. is_ordered_by_barriers p x && not (is_ordered past x))

abbrev pub first_incomplete : Trace → ℕ → Option ℕ
first_incomplete past p =
    first_issued past (λ x. is_ordered_by_barriers p x && not (is_completed past x))

-- the event is an R or B of a barrier
abbrev pub answers_barrier : Header → Trace → Event → Bool
answers_barrier h past (R p i resp last word) =
    is_some_and (outstanding h past p Read i) is_barrier_half
answers_barrier h past (B p i resp) = is_some_and (outstanding h past p Write i) is_barrier_half
answers_barrier h past _ = false

abbrev pub unordered_in : Header → Trace → Event → Option ℕ
unordered_in h past (R p i resp last word) =
    if answers_barrier h past (R p i resp last word) then first_unordered past p else None
unordered_in h past (B p i resp) =
    if answers_barrier h past (B p i resp) then first_unordered past p else None
unordered_in h past _ = None

abbrev pub incomplete_in : Header → Trace → Event → Option ℕ
incomplete_in h past (R p i resp last word) =
    if answers_barrier h past (R p i resp last word) then first_incomplete past p else None
incomplete_in h past (B p i resp) =
    if answers_barrier h past (B p i resp) then first_incomplete past p else None
incomplete_in h past _ = None

-- the event's own target
abbrev pub target_of : Header → Trace → Event → Target
target_of h past e = record {
  transaction = transaction_in h past e;
  snoop = snoop_in past e;
  line = line_in h past e;
  own = own_in h past e;
  beat = beat_in past e;
  «data» = data_in h past e;
  unordered = unordered_in h past e;
  incomplete = incomplete_in h past e;
}
