-- What a walk through a trace keeps of it, and what each part becomes with the next event.
use Rattle.std.specs.Prelude.{ℕ, ◌+◌, ◌*◌, ◌<◌, ◌≤◌, ◌≡◌, ◌==◌, nat_le, nat_lt, min, Bool, true, false, ◌&&◌, ◌||◌, if◌then◌else◌, List, [], ◌∷◌, ◌++◌, length, reverse, find, slice_get, Option, Some, None, is_some, option_map, option_and_then, unwrap_or, ⊤}
use Rattle.std.specs.Ordering.{nat_cmp}
use Rattle.std.specs.BTreeMap.{BTreeMap, get}
use Rattle.ace_event.specs.declared.event.Channel.TheVariants.{Read, Write}
use Rattle.ace_event.specs.declared.event.Event.{Event}
use Rattle.ace_event.specs.declared.event.Event.TheVariants.{Ar, Aw, G, L, R, W}
use Rattle.ace_event.specs.declared.line.Line.{Line}
use Rattle.ace_event.specs.Bytes.{merged}
use Rattle.ace_model.specs.declared.transactions.Transaction.{Transaction}
use Rattle.ace_model.specs.Trace.{Trace, at_point, is_some_and, option_filter}
use Rattle.ace_model.specs.Kinds.{has_write_data}
use Rattle.ace_model.specs.Lines.{is_known}
use Rattle.ace_model.specs.Copies.{is_line_read_transaction, memory_of, opened, word_of, written, zero_line}
use Rattle.ace_model.specs.Transactions.{is_line, is_on, is_read, issued, transaction_of, transfers, write_kind}
use Rattle.ace_model.specs.Values.{after_store, discards_data, full_line, store_at, stores_data, value_of}
use Rattle.ace_model.specs.Writes.{Beat, beats, data_writes}
use Rattle.ace_cert.specs.declared.cert.LineOrder.{LineOrder}
use Rattle.ace_cert.specs.declared.cert.ReadPlace.{ReadPlace}
use Rattle.ace_cert.specs.declared.verification.names.Reading.{Reading}
use Rattle.ace_cert.specs.declared.verification.names.Writing.{Writing}
use Rattle.ace_cert.specs.declared.verification.bursts.Counts.{Counts}
use Rattle.ace_cert.specs.declared.verification.bursts.SentBeat.{SentBeat}
use Rattle.ace_cert.specs.declared.verification.bursts.Bytes.{Bytes}
use Rattle.ace_cert.specs.declared.verification.kept.Kept.{Kept}
use Rattle.ace_cert.specs.declared.verification.lines.Change.{Change}
use Rattle.ace_cert.specs.declared.verification.lines.Facts.{Facts}
use Rattle.ace_cert.specs.declared.verification.lines.Lines.{Lines}
use Rattle.ace_cert.specs.declared.verification.lines.Mark.{Mark}
use Rattle.ace_cert.specs.declared.verification.places.Placed.{Placed}
use Rattle.ace_cert.specs.Certificates.{store_numbers}
use Rattle.ace_cert.specs.Checks.{Reader, first_grant, has_line, is_read_number, reader_at}

-- a count of 32 bits with one more
abbrev pub one_more : ℕ → ℕ
one_more count = min (count + 1) 4294967295

-- Transactions

-- the key of the port's identifier
abbrev pub under : ℕ → ℕ → ℕ
under p i = p * 256 + i

-- the port's last read under the identifier
abbrev pub reading_of : Trace → ℕ → ℕ → Option Reading
reading_of past p i =
    option_map
    (λ x. record {
      transaction = x;
      transfers = transfers past p i;
      granted = first_grant past p i;
    })
    (transaction_of past p Read i)

abbrev pub AreReadsKept : Trace → BTreeMap ℕ Reading → Type 0
AreReadsKept past reads = (p i : ℕ) → i < 256 → get nat_cmp reads (under p i) ≡ reading_of past p i

-- a read that was just issued
abbrev pub begun : Transaction → Reading
begun x = record { transaction = x; transfers = 0; granted = None }

-- the read with a transfer
abbrev pub transferred : Reading → Reading
transferred r =
    record { transaction = r.transaction; transfers = one_more r.transfers; granted = r.granted }

-- the read with a G, of this number
abbrev pub granted_at : ℕ → Reading → Reading
granted_at number r =
    record {
      transaction = r.transaction;
      transfers = r.transfers;
      granted = Some
          (unwrap_or r.granted number);
    }

-- what is kept under a key, with so many events before this one
abbrev pub read_after : ℕ → Event → ℕ → Option Reading → Option Reading
read_after n (Ar q j addr snoop dom bar lock) k o =
    if under q j == k then option_map begun (issued n (Ar q j addr snoop dom bar lock)) else o
read_after n (R q j resp last word) k o = if under q j == k then option_map transferred o else o
read_after n (G q c j) k o = if is_read c
    && (under q j == k) then option_map (granted_at (n + 1)) o else o
read_after n _ k o = o

-- the port's last write under the identifier
abbrev pub writing_of : Trace → ℕ → ℕ → Option Writing
writing_of past p i =
    option_map (λ x. record {
      transaction = x;
      earlier = length (data_writes
          (at_point x.place past) p);
    })
    (transaction_of past p Write i)

abbrev pub AreWritesKept : Trace → BTreeMap ℕ Writing → Type 0
AreWritesKept past writes = (p i : ℕ) → i < 256 → get nat_cmp writes (under p i)
    ≡ writing_of past p i

-- what is kept under a key, where the port of the event has issued so many writes with data
abbrev pub write_after : ℕ → ℕ → Event → ℕ → Option Writing → Option Writing
write_after n earlier (Aw q j addr snoop dom bar) k o =
    if under q j == k then option_map (λ x. record { transaction = x; earlier = earlier })
    (issued n (Aw q j addr snoop dom bar)) else o
write_after n earlier _ k o = o

-- Write data

abbrev pub no_counts : Counts
no_counts = record { writes = 0; beats = 0 }

abbrev pub counts_in : BTreeMap ℕ Counts → ℕ → Counts
counts_in counts p = unwrap_or (get nat_cmp counts p) no_counts

-- how many writes with data and beats of them the port has sent
abbrev pub AreCountsKept : Trace → BTreeMap ℕ Counts → Type 0
AreCountsKept past counts =
    (p : ℕ) → counts_in counts p
    ≡ record { writes = length (data_writes past p); beats = length (beats past p) }

-- the key of the k-th beat of a port, or of the k-th store to a line
abbrev pub nth_of : ℕ → ℕ → ℕ
nth_of p k = p * 4294967296 + k

abbrev pub sent : Beat → SentBeat
sent b = record { strobe = b.strobe; word = b.word }

abbrev pub AreBeatsKept : Trace → BTreeMap ℕ SentBeat → Type 0
AreBeatsKept past beats_kept =
    (p k : ℕ) → k < 4294967296 → get nat_cmp beats_kept (nth_of p k)
    ≡ option_map sent (slice_get (beats past p) k)

-- there is a write for the port's next beat
abbrev pub has_room : Counts → Bool
has_room c = nat_lt c.beats (4 * c.writes)

-- the counts of a port with the event
abbrev pub counts_after : Event → ℕ → Counts → Counts
counts_after (Aw q j addr snoop dom bar) p c =
    if (q == p) && is_some_and (issued 0 (Aw q j addr snoop dom bar)) (λ x. is_some_and
    (write_kind x) has_write_data)
    then record { writes = one_more c.writes; beats = c.beats } else c
counts_after (W q strb last word) p c =
    if (q == p) && has_room c then record { writes = c.writes; beats = one_more c.beats } else c
counts_after _ p c = c

-- what is kept under a key, by the counts of the event's port
abbrev pub beat_after : BTreeMap ℕ Counts → Event → ℕ → Option SentBeat → Option SentBeat
beat_after counts (W q strb last word) k o =
    if has_room (counts_in counts q) && (nth_of q (counts_in counts q).beats == k)
    then Some (record { strobe = strb; word = word }) else o
beat_after counts _ k o = o

-- the port's beat with so many before it, or nothing
abbrev pub beat_in : BTreeMap ℕ SentBeat → ℕ → ℕ → SentBeat
beat_in beats_kept p k = unwrap_or (get nat_cmp beats_kept (nth_of p k))
    (record { strobe = 0; word = 0 })

-- the port's four beats with so many before them
abbrev pub burst_in : BTreeMap ℕ SentBeat → ℕ → ℕ → Bytes
burst_in beats_kept p first = record {
  strobe = (beat_in beats_kept p first).strobe + 65536 * (beat_in beats_kept p (first + 1)).strobe
      + 4294967296 * (beat_in beats_kept p (first + 2)).strobe + 281474976710656 *
      (beat_in beats_kept p (first + 3)).strobe;
  line = record {
    words = (beat_in beats_kept p first).word ∷ (beat_in beats_kept p (first + 1)).word
        ∷ (beat_in beats_kept p (first + 2)).word ∷ (beat_in beats_kept p (first + 3)).word ∷ [];
  };
}

-- Lines

abbrev pub blank : Facts
blank = record { named = false; stores = 0; memory = zero_line; value = zero_line }

-- what is known of a line
abbrev pub facts_of : Trace → ℕ → Facts
facts_of past l = record {
  named = is_known past l;
  stores = length (store_numbers past l);
  memory = memory_of past l;
  value = value_of past l;
}

-- what was known of a line at a point: the newest of the marks that isn't after it, of those that
-- begin with the k-th from 1
abbrev pub facts_behind : List Mark → ℕ → ℕ → Facts
facts_behind [] k q = blank
facts_behind (m ∷ ms) k q =
    if k == length ms + 1
    then (if nat_le m.point q then m.facts else facts_behind ms m.before q)
    else facts_behind ms k q

abbrev pub head_of : BTreeMap ℕ ℕ → ℕ → ℕ
head_of heads l = unwrap_or (get nat_cmp heads l) 0

abbrev pub after_bytes : Line → Option Bytes → Line
after_bytes line None = line
after_bytes line (Some b) = merged line b.strobe b.line

abbrev pub changed : Change → Facts → Facts
changed c f = record {
  named = c.named || f.named;
  stores = if is_some c.store then one_more f.stores else f.stores;
  memory = unwrap_or c.written f.memory;
  value = after_bytes (unwrap_or c.opened f.value) c.store;
}

-- the change, if it is one of the line
abbrev pub change_on : Option Change → ℕ → Option Change
change_on None l = None
change_on (Some c) l = if c.addr == l then Some c else None

-- what the event does to a line
pub record IsChangeOf (past : Trace) (e : Event) (o : Option Change) (l : ℕ) : Type 0 where
  pub named : is_some_and (issued (length past) e) (λ x. is_on x l)
      ≡ is_some_and (change_on o l) (λ c. c.named)
  pub written : written past e l ≡ option_and_then (λ (c : Change). c.written) (change_on o l)
  pub opened : opened e l ≡ option_and_then (λ (c : Change). c.opened) (change_on o l)
  pub store : is_some (store_at past e l)
      ≡ is_some (option_and_then (λ (c : Change). c.store) (change_on o l))
  pub value : (line : Line) → after_store line (store_at past e l)
      ≡ after_bytes line (option_and_then (λ (c : Change). c.store) (change_on o l))

pub record AreLinesKept (past : Trace) (heads : BTreeMap ℕ ℕ) (marks : List Mark)
    (numbers : BTreeMap ℕ ℕ) : Type 0 where
  pub facts : (l q : ℕ) → facts_behind (reverse marks) (head_of heads l) q
      ≡ facts_of (at_point q past) l
  pub newest : (l : ℕ) → head_of heads l ≤ length marks
  pub few : length marks ≤ length past
  pub stored : (l k : ℕ) → k < 4294967296 → get nat_cmp numbers (nth_of l k)
      ≡ slice_get (store_numbers past l) k

-- each mark has its line's earlier one before it
abbrev pub AreMarksBefore : List Mark → Type 0
AreMarksBefore marks = (k : ℕ) (m : Mark) → slice_get marks k ≡ Some m → m.before ≤ k

pub record AreMarksFit (heads : BTreeMap ℕ ℕ) (marks : List Mark) : Type 0 where
  pub before : AreMarksBefore marks
  pub newest : (l : ℕ) → head_of heads l ≤ length marks

-- the facts of the change's line by the newest marks
abbrev pub facts_now : ℕ → Change → Lines → Facts
facts_now number c old = facts_behind (reverse old.marks.items) (head_of old.heads c.addr) number

-- what the lines become with a change by the event with the number
pub record IsApplied (number : ℕ) (c : Change) (old new : Lines) : Type 0 where
  pub marks : new.marks.items ≡ old.marks.items ++ record {
    point = number;
    before = head_of old.heads c.addr;
    facts = changed c (facts_now number c old);
  } ∷ []
  pub heads : (l : ℕ) → head_of new.heads l ≡ (if c.addr == l then length old.marks.items + 1
      else head_of old.heads l)
  pub numbers : (k : ℕ) → get nat_cmp new.numbers k
      ≡ (if is_some c.store
      && (nth_of c.addr (facts_now number c old).stores == k) then Some number
      else get nat_cmp old.numbers k)

abbrev pub AreLinesAfter : ℕ → Option Change → Lines → Lines → Type 0
AreLinesAfter number None old new = new ≡ old
AreLinesAfter number (Some c) old new = IsApplied number c old new

-- Reads

-- the place that the list gives the read with the number
abbrev pub place_under : List ReadPlace → ℕ → Option ℕ
place_under reads number = option_map (λ r. r.place) (find (λ
    (r : ReadPlace). r.event == number) reads)

-- each read of the list has its place, and whether the trace has it
abbrev pub ArePlacesKept : List ReadPlace → Trace → BTreeMap ℕ Placed → Type 0
ArePlacesKept reads past places =
    (number : ℕ) → get nat_cmp places number
    ≡ option_map (λ q. record { place = q; seen = is_read_number past number })
    (place_under reads number)

-- the lines of the list
abbrev pub AreListed : List LineOrder → BTreeMap ℕ ℕ → Type 0
AreListed lines listed = (l : ℕ) → is_some (get nat_cmp listed l) ≡ has_line lines l

abbrev pub seen_one : Placed → Placed
seen_one p = record { place = p.place; seen = true }

-- What events do to lines

abbrev pub unchanged : ℕ → Change
unchanged l = record { addr = l; named = false; written = None; opened = None; store = None }

abbrev pub by_address : Option Transaction → Option Change
by_address None = None
by_address (Some x) =
    if is_line x then Some
    (record { addr = x.addr; named = true; written = None; opened = None; store = None })
    else None

abbrev pub by_transfer : Transaction → Line → Option Change
by_transfer x memory =
    if is_line x && discards_data x
    then Some (record {
      addr = x.addr;
      named = false;
      written = None;
      opened = None;
      store = Some (record { strobe = full_line; line = memory });
    }) else None

abbrev pub by_memory_write : Transaction → Line → Bytes → Option Change
by_memory_write x line burst =
    if is_line x
    then Some (record {
      addr = x.addr;
      named = false;
      written = Some line;
      opened = None;
      store = if stores_data x then Some burst else None;
    }) else None

-- what is kept of a trace, but the places of its reads
pub record IsKept (past : Trace) (kept : Kept) : Type 0 where
  pub reads : AreReadsKept past kept.reads
  pub writes : AreWritesKept past kept.writes
  pub counts : AreCountsKept past kept.counts
  pub beats : AreBeatsKept past kept.beats
  pub lines : AreLinesKept past kept.lines.heads kept.lines.marks.items kept.lines.numbers

-- The identifier and the port of an event are bytes.
abbrev pub HasBytes : Event → Type 0
HasBytes (Ar p i addr snoop dom bar lock) = i < 256
HasBytes (Aw p i addr snoop dom bar) = i < 256
HasBytes (R p i resp last word) = i < 256
HasBytes (G p c i) = i < 256
HasBytes _ = ⊤

-- the number of the read that the event shows: of a load its own, of a beat that of its AR
abbrev pub seen_at : Trace → Event → Option ℕ
seen_at past (L p l w x word) = Some (length past + 1)
seen_at past (R p i resp last word) =
    option_map (λ (x : Transaction). x.place + 1) (option_filter is_line_read_transaction
    (transaction_of past p Read i))
seen_at past _ = None

-- a port and a line as one number
abbrev pub reader_key : Reader → ℕ
reader_key r = nth_of r.port r.addr

-- The table has under each reader the place of its last read, and that of each earlier one isn't
-- after it.
pub record AreLast (trace : List Event) (reads : List ReadPlace)
    (last : BTreeMap ℕ ℕ) : Type 0 where
  pub found : (key place : ℕ) → get nat_cmp last key ≡ Some place
      → (k : ℕ) × ((r : ReadPlace) × ((slice_get reads k ≡ Some r)
      × (reader_key (reader_at trace r) ≡ key) × (r.place ≡ place)))
  pub fits : (k : ℕ) (r : ReadPlace) → slice_get reads k ≡ Some r
      → (reader_at trace r).addr < 4294967296
  pub least : (k : ℕ) (r : ReadPlace) → slice_get reads k ≡ Some r
      → (place : ℕ) × ((get nat_cmp last (reader_key (reader_at trace r)) ≡ Some place)
      × r.place ≤ place)

-- the next beat of the read is right at this place, with so many events before it
abbrev pub is_beat_right_at : Kept → ℕ → Reading → ℕ → ℕ → Bool
is_beat_right_at kept n r q word =
    is_some_and r.granted (λ g. nat_le q n && nat_le g q
    && (word == word_of (facts_behind (reverse kept.lines.marks.items)
    (head_of kept.lines.heads r.transaction.addr) q).value r.transfers))
