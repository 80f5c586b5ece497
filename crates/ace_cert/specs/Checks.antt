-- Whether a certificate is one, as a test of its lines, of its reads, and of each event after those
-- before it.
use Rattle.std.specs.Prelude.{ℕ, ◌+◌, ◌-◌, ◌==◌, ◌≡◌, ◌<◌, ◌≤◌, nat_le, nat_lt, Bool, true, false, ◌&&◌, ◌||◌, if◌then◌else◌, List, [], ◌∷◌, length, map, reverse, slice_get, All, Option, Some, None, option_map, unwrap_or}
use Rattle.std.specs.List.Sorted.{IsStrictlyIncreasing}
use Rattle.std.specs.List.{list_any}
use Rattle.ace_event.specs.declared.event.Channel.TheVariants.{Read}
use Rattle.ace_event.specs.declared.event.Event.{Event}
use Rattle.ace_event.specs.declared.event.Event.TheVariants.{Ar, G, R, L}
use Rattle.ace_model.specs.declared.transactions.Transaction.{Transaction}
use Rattle.ace_model.specs.Trace.{Trace, at_point, is_some_and, is_none_or, implies}
use Rattle.ace_model.specs.Lines.{is_known}
use Rattle.ace_model.specs.Copies.{is_line_read_transaction, word_of}
use Rattle.ace_model.specs.Transactions.{is_line, is_read, issued, transaction_of, transfers}
use Rattle.ace_model.specs.Values.{value_of}
use Rattle.ace_cert.specs.declared.cert.LineOrder.{LineOrder}
use Rattle.ace_cert.specs.declared.cert.ReadPlace.{ReadPlace}
use Rattle.ace_cert.specs.declared.cert.Cert.{Cert}
use Rattle.ace_cert.specs.Certificates.{place_in, store_numbers}

-- the number of the first G that the port's last read under the identifier has had
abbrev pub first_grant : Trace → ℕ → ℕ → Option ℕ
first_grant [] p i = None
first_grant (Ar q j addr snoop dom bar lock ∷ past) p i =
    if (p == q) && (i == j) then None else first_grant past p i
first_grant (G q c j ∷ past) p i =
    if is_read c && (p == q) && (i == j)
    then Some (unwrap_or (first_grant past p i) (length past + 1))
    else first_grant past p i
first_grant (_ ∷ past) p i = first_grant past p i

-- the lines have this one
abbrev pub has_line : List LineOrder → ℕ → Bool
has_line lines l = list_any (λ (o : LineOrder). o.addr == l) lines

-- they have the line of the transaction that the event issues, if it is a line transaction
abbrev pub lists_line : List LineOrder → ℕ → Event → Bool
lists_line lines n e = is_none_or (issued n e) (λ x. implies (is_line x) (has_line lines x.addr))

-- a beat that is the k-th of the line read is right at the read's place
abbrev pub beat_passes : List ReadPlace → Trace → Transaction → ℕ → ℕ → Bool
beat_passes reads past x k word =
    is_some_and (place_in reads x.place) (λ q. nat_le q (length past)
    && is_some_and (first_grant past x.port x.id) (λ g. nat_le g q)
    && (word == word_of (value_of (at_point q past) x.addr) k))

abbrev pub transfer_passes : List ReadPlace → Trace → Option Transaction → ℕ → ℕ → Bool
transfer_passes reads past o k word =
    is_none_or o (λ x. implies (is_line_read_transaction x) (beat_passes reads past x k word))

-- a load is right at its place
abbrev pub load_passes : List ReadPlace → Trace → ℕ → ℕ → ℕ → Bool
load_passes reads past l w word =
    is_some_and (place_in reads (length past)) (λ q. q == length past)
    && (word == word_of (value_of past l) w)

-- the event is right after these, if it is a load or a beat of a line read
abbrev pub passes : List ReadPlace → Trace → Event → Bool
passes reads past (L p l w x word) = load_passes reads past l w word
passes reads past (R p i resp last word) =
    transfer_passes reads past (transaction_of past p Read i) (transfers past p i) word
passes reads past _ = true

-- each event passes, and the lines have the line of each transaction
abbrev pub all_pass : List LineOrder → List ReadPlace → Trace → Bool
all_pass lines reads [] = true
all_pass lines reads (e ∷ past) =
    all_pass lines reads past && (lists_line lines (length past) e && passes reads past e)

-- the event is a load, with so many events before it, or a beat of the line read that was issued
-- with so many before it
abbrev pub reads_at : Trace → Event → ℕ → Bool
reads_at past (L p l w x word) n = length past == n
reads_at past (R p i resp last word) n =
    is_some_and (transaction_of past p Read i) (λ x. is_line_read_transaction x && (x.place == n))
reads_at past _ n = false

-- the event with so many events before it is a load, or the AR of a line read with a beat
abbrev pub is_read_at : Trace → ℕ → Bool
is_read_at [] n = false
is_read_at (e ∷ past) n = is_read_at past n || reads_at past e n

-- a port and a line
pub record Reader : Type 0 where
  pub port : ℕ
  pub addr : ℕ

-- whose the event would be, if it is a read, and of which line
abbrev pub reader_of : Event → Reader
reader_of (L p l w x word) = record { port = p; addr = l }
reader_of (Ar p i addr snoop dom bar lock) = record { port = p; addr = addr }
reader_of _ = record { port = 0; addr = 0 }

abbrev pub same_reader : Reader → Reader → Bool
same_reader a b = (a.port == b.port) && (a.addr == b.addr)

-- whose the read is, of this trace with the oldest event first
abbrev pub reader_at : List Event → ReadPlace → Reader
reader_at trace r =
    unwrap_or (option_map reader_of (slice_get trace (r.event - 1))) (record { port = 0; addr = 0 })

-- for each port and line the places never go back
abbrev pub AreInOrder : List Event → List ReadPlace → Type 0
AreInOrder trace reads =
    (i j : ℕ) (a b : ReadPlace) → i < j → slice_get reads i ≡ Some a → slice_get reads j ≡ Some b
    → same_reader (reader_at trace a) (reader_at trace b) ≡ true → a.place ≤ b.place

-- the event with this number, from 1 on, is a load, or the AR of a line read with a beat
abbrev pub is_read_number : Trace → ℕ → Bool
is_read_number past number = nat_lt 0 number && is_read_at past (number - 1)

-- a line that a line transaction names, and the numbers of its stores
abbrev pub IsOrderOf : Trace → LineOrder → Type 0
IsOrderOf past o = (is_known past o.addr ≡ true) × (o.stores ≡ store_numbers past o.addr)

-- what is tested of a certificate
pub record IsChecked (past : Trace) (cert : Cert) : Type 0 where
  pub lines_rise : IsStrictlyIncreasing (map (λ (o : LineOrder). o.addr) cert.lines)
  pub reads_rise : IsStrictlyIncreasing (map (λ (r : ReadPlace). r.event) cert.reads)
  pub passes : all_pass cert.lines cert.reads past ≡ true
  pub orders : All (IsOrderOf past) cert.lines
  pub reads : All (λ (r : ReadPlace). is_read_number past r.event ≡ true) cert.reads
  pub in_order : AreInOrder (reverse past) cert.reads
