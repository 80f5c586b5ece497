-- The transactions of a trace. One is issued by an AR or AW; R and B belong to it by port, channel
-- and identifier, RK and WK by the order of completion (Arm IHI 0022E, A5.3, C3.3 and C3.5).
use Rattle.std.specs.Prelude.{ℕ, ◌+◌, Bool, true, false, not, ◌&&◌, ◌||◌, ◌==◌, if◌then◌else◌, List, [], ◌∷◌, Option, Some, None, length, slice_get, nat_lt}
use Rattle.std.specs.Int.{bit_at}
use Rattle.ace_codes.specs.declared.kind.ArKind.{ArKind}
use Rattle.ace_codes.specs.declared.kind.AwKind.{AwKind}
use Rattle.ace_codes.specs.declared.kind.SnoopKind.{SnoopKind}
use Rattle.ace_event.specs.declared.header.Header.{Header}
use Rattle.ace_event.specs.declared.event.Channel.{Channel}
use Rattle.ace_event.specs.declared.event.Channel.TheVariants.{Read, Write}
use Rattle.ace_event.specs.declared.event.Event.{Event}
use Rattle.ace_event.specs.declared.event.Event.TheVariants.{Ar, R, Rk, Aw, B, Wk}
use Rattle.ace_model.specs.declared.transactions.Transaction.{Transaction}
use Rattle.ace_model.specs.Trace.{Trace, is_some_and, option_filter, more}
use Rattle.ace_codes.specs.Reads.{ar_kind_of}
use Rattle.ace_codes.specs.Writes.{aw_kind_of}
use Rattle.ace_model.specs.Kinds.{is_line_read, is_line_write, is_granted_write, is_clean_unique, is_make_unique}
use Rattle.ace_tables.specs.SnoopKinds.{snoop_of_read, snoop_of_write}

-- the port is an ACE port of the header
abbrev pub is_ace : Header → ℕ → Bool
is_ace h p = nat_lt p h.ports && (bit_at h.ace p == 1)

abbrev pub is_read : Channel → Bool
is_read Read = true
is_read Write = false

abbrev pub same_channel : Channel → Channel → Bool
same_channel c d = if is_read c then is_read d else not (is_read d)

-- the transaction is the port's, on the channel and under the identifier
abbrev pub has_name : Transaction → ℕ → Channel → ℕ → Bool
has_name x p c i = (x.port == p) && same_channel x.chan c && (x.id == i)

abbrev pub is_named : Option Transaction → ℕ → Channel → ℕ → Bool
is_named o p c i = is_some_and o (λ x. has_name x p c i)

-- both are the same transaction: they were issued at the same place
abbrev pub is_transaction : Option Transaction → Transaction → Bool
is_transaction o y = is_some_and o (λ x. x.place == y.place)

-- the kind of a transaction, if it is a read
abbrev pub read_kind : Transaction → Option ArKind
read_kind x = if is_read x.chan then ar_kind_of x.snoop x.dom x.bar else None

-- the kind of a transaction, if it is a write
abbrev pub write_kind : Transaction → Option AwKind
write_kind x = if is_read x.chan then None else aw_kind_of x.snoop x.dom x.bar

-- a line transaction
abbrev pub is_line : Transaction → Bool
is_line x = is_some_and (read_kind x) is_line_read || is_some_and (write_kind x) is_line_write

-- a line transaction on this line
abbrev pub is_on : Transaction → ℕ → Bool
is_on x l = is_line x && (x.addr == l)

abbrev pub is_some_on : Option Transaction → ℕ → Bool
is_some_on o l = is_some_and o (λ x. is_on x l)

-- it is of a kind that is granted its line: a line transaction but a memory update or Evict
abbrev pub takes_grant : Transaction → Bool
takes_grant x =
    is_some_and (read_kind x) is_line_read || is_some_and (write_kind x) is_granted_write

-- the line snoop that the kind causes
abbrev pub snoop_kind_of : Option ArKind → Option AwKind → Option SnoopKind
snoop_kind_of (Some k) write = snoop_of_read k
snoop_kind_of None (Some k) = snoop_of_write k
snoop_kind_of None None = None

-- the line snoop that the transaction causes
abbrev pub snoop_of : Transaction → Option SnoopKind
snoop_of x = snoop_kind_of (read_kind x) (write_kind x)

-- an exclusive store: a CleanUnique with lock 1 (Arm IHI 0022E, C9)
abbrev pub is_exclusive_store : Transaction → Bool
is_exclusive_store x = x.lock && is_some_and (read_kind x) is_clean_unique

abbrev pub is_make_unique_on : Transaction → ℕ → Bool
is_make_unique_on x l = is_some_and (read_kind x) is_make_unique && (x.addr == l)

-- the transaction that the event issues, where so many events came before it
abbrev pub issued : ℕ → Event → Option Transaction
issued place (Ar p i addr snoop dom bar lock) =
    Some (record { place = place; port = p; chan = Read; id = i; addr = addr; snoop = snoop; dom = dom; bar = bar; lock = lock })
issued place (Aw p i addr snoop dom bar) =
    Some (record { place = place; port = p; chan = Write; id = i; addr = addr; snoop = snoop; dom = dom; bar = bar; lock = false })
issued place _ = None

-- the first one, where it has the name, else the older one
abbrev pub newest_named : Option Transaction → ℕ → Channel → ℕ
    → Option Transaction → Option Transaction
newest_named None p c i older = older
newest_named (Some x) p c i older = if has_name x p c i then Some x else older

-- the transaction that the port issued last on the channel under the identifier
abbrev pub transaction_of : Trace → ℕ → Channel → ℕ → Option Transaction
transaction_of [] p c i = None
transaction_of (e ∷ past) p c i =
    newest_named (issued (length past) e) p c i (transaction_of past p c i)

-- the identifier of the port's transaction on the channel that the event completes: its last R, or
-- its B
abbrev pub completes : Event → ℕ → Channel → Option ℕ
completes (R q j resp last word) p c = if is_read c && (p == q) && last then Some j else None
completes (B q j resp) p c = if not (is_read c) && (p == q) then Some j else None
completes _ p c = None

-- the identifiers of the port's complete transactions on the channel, in the order of completion
abbrev pub completed : Trace → ℕ → Channel → List ℕ
completed [] p c = []
completed (e ∷ past) p c = more (completed past p c) (completes e p c)

-- how many RK events the port has, or WK events for the write channel
abbrev pub acknowledgements : Trace → ℕ → Channel → ℕ
acknowledgements [] p c = 0
acknowledgements (Rk q st ∷ past) p c =
    if is_read c && (p == q) then acknowledgements past p c + 1 else acknowledgements past p c
acknowledgements (Wk q st ∷ past) p c =
    if not (is_read c) && (p == q) then acknowledgements past p c + 1 else acknowledgements past p c
acknowledgements (_ ∷ past) p c = acknowledgements past p c

-- the identifier of the complete transaction that the port's next RK or WK belongs to: the k-th
-- acknowledge belongs to the k-th complete transaction
abbrev pub next_complete : Trace → ℕ → Channel → Option ℕ
next_complete past p c = slice_get (completed past p c) (acknowledgements past p c)

abbrev pub transaction_under : Trace → ℕ → Channel → Option ℕ → Option Transaction
transaction_under past p c None = None
transaction_under past p c (Some i) = transaction_of past p c i

-- the transaction that the port's next RK or WK belongs to
abbrev pub acknowledged : Trace → ℕ → Channel → Option Transaction
acknowledged past p c = transaction_under past p c (next_complete past p c)

-- the transaction that is no longer outstanding from the event on: at an ACE port by its RK or WK,
-- at an ACE-Lite port by its last R or its B
abbrev pub ended : Header → Trace → Event → Option Transaction
ended h past (Rk p st) = acknowledged past p Read
ended h past (Wk p st) = acknowledged past p Write
ended h past (R p i resp last word) =
    if last && not (is_ace h p) then transaction_of past p Read i else None
ended h past (B p i resp) = if is_ace h p then None else transaction_of past p Write i
ended h past _ = None

-- the second one, unless it is the first
abbrev pub without : Option Transaction → Option Transaction → Option Transaction
without None x = x
without (Some y) None = None
without (Some y) (Some x) = if x.place == y.place then None else Some x

-- the port's outstanding transaction on the channel under the identifier
abbrev pub outstanding : Header → Trace → ℕ → Channel → ℕ → Option Transaction
outstanding h [] p c i = None
outstanding h (e ∷ past) p c i =
    newest_named (issued (length past) e) p c i
    (without (ended h past e) (outstanding h past p c i))

abbrev pub is_outstanding : Header → Trace → Transaction → Bool
is_outstanding h past x = is_transaction (outstanding h past x.port x.chan x.id) x

-- the transactions of the trace that pass the test, in order
abbrev pub issued_where : Trace → (Transaction → Bool) → List Transaction
issued_where [] test = []
issued_where (e ∷ past) test =
    more (issued_where past test) (option_filter test (issued (length past) e))

-- a transaction of the trace passes the test
abbrev pub some_issued : Trace → (Transaction → Bool) → Bool
some_issued [] test = false
some_issued (e ∷ past) test = is_some_and (issued (length past) e) test || some_issued past test

-- it is the port's, on the line, and outstanding
abbrev pub is_outstanding_on : Header → Trace → ℕ → ℕ → Transaction → Bool
is_outstanding_on h past p l x = (x.port == p) && is_on x l && is_outstanding h past x

-- a transaction of the port on the line is outstanding
abbrev pub has_outstanding_on : Header → Trace → ℕ → ℕ → Bool
has_outstanding_on h past p l = some_issued past (is_outstanding_on h past p l)

-- how many transfers the port has had under the identifier since its last AR with it
abbrev pub transfers : Trace → ℕ → ℕ → ℕ
transfers [] p i = 0
transfers (Ar q j addr snoop dom bar lock ∷ past) p i =
    if (p == q) && (i == j) then 0 else transfers past p i
transfers (R q j resp last word ∷ past) p i =
    if (p == q) && (i == j) then transfers past p i + 1 else transfers past p i
transfers (_ ∷ past) p i = transfers past p i

-- the response of the first of these transfers
abbrev pub first_resp : Trace → ℕ → ℕ → Option ℕ
first_resp [] p i = None
first_resp (Ar q j addr snoop dom bar lock ∷ past) p i =
    if (p == q) && (i == j) then None else first_resp past p i
first_resp (R q j resp last word ∷ past) p i =
    if (p == q) && (i == j) && (transfers past p i == 0) then Some resp else first_resp past p i
first_resp (_ ∷ past) p i = first_resp past p i

-- an event of which the test holds came after the port's last transaction on the channel under the
-- identifier was issued
abbrev pub has_since : (Trace → Event → ℕ → Channel → ℕ → Bool) → Trace → ℕ → Channel → ℕ → Bool
has_since test [] p c i = false
has_since test (e ∷ past) p c i =
    test past e p c i || (not (is_named (issued (length past) e) p c i)
    && has_since test past p c i)

-- the event completes the port's transaction on the channel under the identifier
abbrev pub is_completion : Event → ℕ → Channel → ℕ → Bool
is_completion e p c i = is_some_and (completes e p c) (λ j. i == j)

-- the port's last transaction on the channel under the identifier has had its last R or its B
abbrev pub is_complete : Trace → ℕ → Channel → ℕ → Bool
is_complete past p c i = has_since (λ before. is_completion) past p c i
