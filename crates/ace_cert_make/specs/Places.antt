-- The place that each read gets as the trace grows. The law is that in an accepted trace all reads
-- follow the stores there.
use Rattle.std.specs.Prelude.{ℕ, ◌+◌, ◌==◌, Bool, false, ◌||◌, if◌then◌else◌, [], ◌∷◌, length, Option, Some, None, option_map, unwrap_or}
use Rattle.ace_event.specs.declared.event.Channel.TheVariants.{Read}
use Rattle.ace_event.specs.declared.event.Event.{Event}
use Rattle.ace_event.specs.declared.event.Event.TheVariants.{L, M, R}
use Rattle.ace_model.specs.Trace.{Trace, newer, option_filter}
use Rattle.ace_model.specs.Transactions.{is_some_on, transaction_of, transfers}
use Rattle.ace_model.specs.Copies.{is_line_read_transaction}
use Rattle.ace_model.specs.Grants.{gives_line}
use Rattle.ace_model.specs.Replies.{sender_at}
use Rattle.ace_cert.specs.declared.cert.ReadPlace.{ReadPlace}

-- the event is the M of a transaction on the line
abbrev pub writes_line : Trace → Event → ℕ → Bool
writes_line past (M p c i line) l = is_some_on (transaction_of past p c i) l
writes_line past _ l = false

-- the last point right after a G or an M of the line
abbrev pub memory_place : Trace → ℕ → ℕ
memory_place [] l = 0
memory_place (e ∷ past) l =
    if gives_line past e l || writes_line past e l then length past + 1 else memory_place past l

-- the point right before the first answer with DataTransfer under the present grant of the line
abbrev pub sent_place : Trace → ℕ → Option ℕ
sent_place [] l = None
sent_place (e ∷ past) l =
    if gives_line past e l then None
    else newer (sent_place past l) (option_map (λ q. length past) (sender_at past e l))

-- The place of a granted read of the line whose first beat comes next. Where a port has sent the
-- line under the grant, it is right before the first such answer; else it is the last point right
-- after a G or M of the line.
abbrev pub next_place : Trace → ℕ → ℕ
next_place past l = unwrap_or (sent_place past l) (memory_place past l)

-- the read that gets its place by the event: a load, or a read of a line by its first beat
abbrev pub placed_by : Trace → Event → Option ReadPlace
placed_by past (L p l w x word) = Some (record { event = length past + 1; place = length past })
placed_by past (R p i resp last word) =
    if transfers past p i == 0
    then option_map (λ x. record { event = x.place + 1; place = next_place past x.addr })
    (option_filter is_line_read_transaction (transaction_of past p Read i))
    else None
placed_by past _ = None

-- the place of the read with the number, where this read is placed
abbrev pub placed_or : Option ReadPlace → ℕ → Option ℕ → Option ℕ
placed_or None number older = older
placed_or (Some r) number older = if r.event == number then Some r.place else older

-- the place that the load or AR with the number, from 1 on, got
abbrev pub place_given : Trace → ℕ → Option ℕ
place_given [] number = None
place_given (e ∷ past) number = placed_or (placed_by past e) number (place_given past number)
