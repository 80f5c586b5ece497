-- What a master asks for next, for an operation that can't end yet.
use Rattle.std.specs.Prelude.{ℕ, zero, suc, Bool, true, false, not, ◌&&◌, ◌||◌, ◌==◌, nat_lt, if◌then◌else◌, List, [], ◌∷◌, ◌++◌, length, map, filter, Option, Some, None, is_none, flat_map}
use Rattle.std.specs.List.{list_any}
use Rattle.std.specs.Option.{option_to_list}
use Rattle.ace_codes.specs.declared.state.LineState.{LineState}
use Rattle.ace_codes.specs.declared.state.LineState.TheVariants.{I}
use Rattle.ace_codes.specs.declared.kind.ArKind.{ArKind}
use Rattle.ace_codes.specs.declared.kind.ArKind.TheVariants as read
use Rattle.ace_codes.specs.declared.kind.AwKind.{AwKind}
use Rattle.ace_codes.specs.declared.kind.AwKind.TheVariants as write
use Rattle.ace_codes.specs.Reads.{ar_code}
use Rattle.ace_codes.specs.Writes.{aw_code}
use Rattle.ace_event.specs.declared.event.Channel.{Channel}
use Rattle.ace_event.specs.declared.event.Channel.TheVariants.{Read, Write}
use Rattle.ace_event.specs.declared.event.Event.{Event}
use Rattle.ace_event.specs.declared.event.Event.TheVariants as event
use Rattle.ace_event.specs.declared.header.Header.{Header}
use Rattle.ace_tables.specs.States.{is_invalid, is_dirty}
use Rattle.ace_model.specs.declared.plans.Op.{Op}
use Rattle.ace_model.specs.declared.plans.Op.TheVariants.{Ld, Ldx, St, Stx, Fill, Pf, Wb, Wc, Ev, We, Ro, Cs, Ci, Mi, Rn, Wu, Wlu, Wn, Mb, Sb, Dvm, Sync, Dvm2}
use Rattle.ace_model.specs.Trace.{Trace, is_some_and, newer}
use Rattle.ace_model.specs.Kinds.{is_no_snoop_read, is_no_snoop_write, is_unique_write}
use Rattle.ace_model.specs.Transactions.{outstanding, is_outstanding, has_outstanding_on}
use Rattle.ace_model.specs.Progress.{updates_memory}
use Rattle.ace_model.specs.States.{state_of}
use Rattle.ace_model.specs.AddressRules.{has_write, keeps_apart}
use Rattle.ace_model.specs.Plans.{line_named}
use Rattle.ace_runs.specs.Acts.{memory_bar, synchronisation_bar}
use Rattle.ace_runs.specs.Segments.{segment, acts_made}
use Rattle.ace_runs.specs.HeldLines.{held_lines}
use Rattle.ace_runs.specs.Bursts.{onto}
use Rattle.ace_runs.specs.Closing.{closing_of, and_closing, state_named}

-- What a master asks for.
pub data Request : Type 0 where
  -- a read of the kind on the line, with this lock
  Reads : ArKind → ℕ → Bool → Request
  -- the same, of a line that the port doesn't hold: a way is wanted for it first
  Misses : ArKind → ℕ → Bool → Request
  -- a write of the kind on the line
  Writes : AwKind → ℕ → Request
  -- to give up the clean line
  Drops : ℕ → Request
  -- both halves of a barrier
  Barriers : ℕ → Request
  -- both parts of a DVM message
  Messages : ℕ → ℕ → Request

-- a port gives a line up before it goes past its cache: a dirty line is written back
abbrev pub gives_up_first : ℕ → LineState → Request → Request
gives_up_first a st next =
    if is_invalid st then next else if is_dirty st then Writes write.WriteBack a else Drops a

-- a dirty line is written to memory first
abbrev pub cleans_first : ℕ → LineState → Request → Request
cleans_first a st next = if is_dirty st then Writes write.WriteClean a else next

-- to own the line: by the first kind where the port doesn't hold it, by the second where it does
abbrev pub owns : ArKind → ArKind → ℕ → LineState → Request
owns miss hit a st = if is_invalid st then Misses miss a false else Reads hit a false

-- What an operation asks for that can't end, by the port's state of its line.
abbrev pub request_of : Op → LineState → Request
request_of (Ld a w) st = Misses read.ReadShared a false
request_of (Ldx a w) st = Misses read.ReadShared a true
request_of (St a w word) st = owns read.ReadUnique read.CleanUnique a st
request_of (Stx a w word) st = Reads read.CleanUnique a true
request_of (Fill a line) st = owns read.MakeUnique read.MakeUnique a st
request_of (Pf a k) st = Misses k a false
request_of (Wb a) st = Writes write.WriteBack a
request_of (Wc a) st = Writes write.WriteClean a
request_of (Ev a) st = Writes write.Evict a
request_of (We a) st = Writes write.WriteEvict a
request_of (Ro a) st = gives_up_first a st (Reads read.ReadOnce a false)
request_of (Ci a) st = gives_up_first a st (Reads read.CleanInvalid a false)
request_of (Mi a) st = gives_up_first a st (Reads read.MakeInvalid a false)
request_of (Wu a strobe line) st = gives_up_first a st (Writes write.WriteUnique a)
request_of (Wlu a line) st = gives_up_first a st (Writes write.WriteLineUnique a)
request_of (Cs a) st = cleans_first a st (Reads read.CleanShared a false)
request_of (Rn a) st = Reads read.ReadNoSnoop a false
request_of (Wn a strobe line) st = Writes write.WriteNoSnoop a
request_of Mb st = Barriers memory_bar
request_of Sb st = Barriers synchronisation_bar
request_of (Dvm word) st = Reads read.DvmMessage word false
request_of (Sync word) st = Reads read.DvmMessage word false
request_of (Dvm2 word second) st = Messages word second

-- ---- identifiers
-- -------------------------------------------------------------------------------------

-- the first number below n that passes the test
abbrev pub least_below : ℕ → (ℕ → Bool) → Option ℕ
least_below zero test = None
least_below (suc n) test = newer (least_below n test) (if test n then Some n else None)

abbrev pub identifiers : ℕ
identifiers = 16

abbrev pub is_free : Header → Trace → ℕ → Channel → ℕ → Bool
is_free h past p c i = is_none (outstanding h past p c i)

-- the least identifier of the port that is free on the channel, on both channels
abbrev pub free_on : Header → Trace → ℕ → Channel → Option ℕ
free_on h past p c = least_below identifiers (is_free h past p c)

abbrev pub free_on_both : Header → Trace → ℕ → Option ℕ
free_on_both h past p =
    least_below identifiers (λ i. is_free h past p Read i && is_free h past p Write i)

-- ---- the bursts by which a port asks
-- -----------------------------------------------------------------

abbrev pub with_identifier : Option ℕ → (ℕ → List Event) → List (List Event)
with_identifier i burst = map burst (option_to_list i)

-- the domain of a master's transactions: Non-shareable for NoSnoop, else Inner Shareable
abbrev pub domain_for : Bool → ℕ
domain_for no_snoop = if no_snoop then 0 else 1

abbrev pub read_bursts : Header → Trace → ℕ → ArKind → ℕ → Bool → List (List Event)
read_bursts h past p k a lock =
    with_identifier (free_on h past p Read) (λ i. event.Ar p i a
    (ar_code k) (domain_for (is_no_snoop_read k)) 0 lock ∷ [])

abbrev pub write_bursts : Header → Trace → ℕ → AwKind → ℕ → List (List Event)
write_bursts h past p k a =
    if keeps_apart h past p k
    then with_identifier (free_on h past p Write)
    (λ i. event.Aw p i a (aw_code k) (domain_for (is_no_snoop_write k)) 0 ∷ [])
    else []

abbrev pub barrier_halves : ℕ → ℕ → ℕ → List Event
barrier_halves p bar i =
    event.Ar p i 0 (ar_code read.Barrier) 1 bar false
    ∷ event.Aw p i 0 (aw_code write.Barrier) 1 bar ∷ []

abbrev pub barrier_bursts : Header → Trace → ℕ → ℕ → List (List Event)
barrier_bursts h past p bar = with_identifier (free_on_both h past p) (barrier_halves p bar)

-- the AR of the part that comes after these events, which takes the least identifier that is free
-- after them
abbrev pub and_part : Header → Trace → ℕ → ℕ → List Event → List (List Event)
and_part h past p word burst =
    map (λ part. burst ++ part) (read_bursts h (onto burst past) p read.DvmMessage word false)

-- both parts at once: two identifiers have to be free
abbrev pub message_bursts : Header → Trace → ℕ → ℕ → ℕ → List (List Event)
message_bursts h past p word second =
    flat_map (and_part h past p second) (and_part h past p word [])

abbrev pub drop_bursts : ℕ → ℕ → List (List Event)
drop_bursts p a = (event.S p a I ∷ []) ∷ []

-- how the port makes room by giving this line up: it writes a dirty line back
abbrev pub victim_bursts : Header → Trace → ℕ → ℕ → List (List Event)
victim_bursts h past p a =
    if is_dirty (state_of h past p a) then write_bursts h past p write.WriteBack a
    else drop_bursts p a

-- The bursts that make room: one for each line that isn't busy. There are none, whichever line
-- would be given up, while no identifier is free for a write, and while a WriteUnique or
-- WriteLineUnique of the port is outstanding.
abbrev pub room_bursts : Header → Trace → ℕ → List (List Event)
room_bursts h past p =
    if is_none (free_on h past p Write) || has_write h past p is_unique_write then []
    else flat_map (victim_bursts h past p) (filter (λ a. not (has_outstanding_on h past p a))
    (held_lines h past p))

-- the port holds fewer lines than there are ways
abbrev pub has_room : ℕ → Header → Trace → ℕ → Bool
has_room ways h past p = nat_lt (length (held_lines h past p)) ways

-- the bursts by which the port may ask, if it can
abbrev pub bursts_of : ℕ → Header → Trace → ℕ → Request → List (List Event)
bursts_of ways h past p (Reads k a lock) = read_bursts h past p k a lock
bursts_of ways h past p (Misses k a lock) =
    if has_room ways h past p then read_bursts h past p k a lock else room_bursts h past p
bursts_of ways h past p (Writes k a) = write_bursts h past p k a
bursts_of ways h past p (Drops a) = drop_bursts p a
bursts_of ways h past p (Barriers bar) = barrier_bursts h past p bar
bursts_of ways h past p (Messages word second) = message_bursts h past p word second

-- ---- how an operation goes on
-- ------------------------------------------------------------------------

-- a memory update that the port issued for the operation is outstanding
abbrev pub awaits_update : Header → Trace → ℕ → Bool
awaits_update h past p =
    list_any (λ x. updates_memory x && is_outstanding h past x) (segment past p)

-- the operation has to wait: a transaction of the port on its line is outstanding, or an update
-- that it awaits, or its own transaction was issued
abbrev pub is_waiting : Header → Trace → ℕ → Op → Bool
is_waiting h past p op =
    is_some_and (line_named op) (has_outstanding_on h past p) || awaits_update h past p
    || not (acts_made past p == 0)

-- what ends the operation, if it can end, else the bursts by which it asks, each with what ends the
-- operation then
abbrev pub ends_or_asks : ℕ → Header → Trace → ℕ → Op → List Event → List (List Event)
ends_or_asks ways h past p op [] =
    map (and_closing h past p op) (bursts_of ways h past p
    (request_of op (state_named h past p op)))
ends_or_asks ways h past p op end = end ∷ []

-- The bursts by which the operation can go on: one, or one for each line that may be given up, or
-- none.
abbrev pub moves_of : ℕ → Header → Trace → ℕ → Op → List (List Event)
moves_of ways h past p op =
    if is_waiting h past p op then [] else ends_or_asks ways h past p op (closing_of h past p op)
