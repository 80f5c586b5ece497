-- What the outstanding transactions of a port on one channel say of a trace.
use Rattle.std.specs.Prelude.{ℕ, ◌≡◌, ◌≤◌, ◌<◌, ◌+◌, ◌%◌, Bool, true, false, not, ◌&&◌, ◌||◌, ◌==◌, if◌then◌else◌, List, [], ◌∷◌, drop, map, filter, slice_get, vec_capacity, Option, Some, None, ⊤}
use Rattle.std.specs.List.{AllByRecursion}
use Rattle.std.specs.VecDeque.{deque_capacity}
use Rattle.ace_event.specs.declared.event.Channel.{Channel}
use Rattle.ace_event.specs.declared.event.Channel.TheVariants.{Read, Write}
use Rattle.ace_event.specs.declared.event.Event.{Event}
use Rattle.ace_event.specs.declared.event.Event.TheVariants.{Ar, R, Rk, Aw, B, Wk, G, M, D}
use Rattle.ace_event.specs.declared.header.Header.{Header}
use Rattle.ace_model.specs.declared.transactions.Transaction.{Transaction}
use Rattle.ace_model.specs.Trace.{Trace, port_of, more, is_some_and}
use Rattle.ace_model.specs.Transactions.{is_ace, is_read, same_channel, has_name, is_make_unique_on, is_outstanding, acknowledgements, completed}
use Rattle.ace_model.specs.Progress.{transactions}
use Rattle.ace_portck.specs.declared.target.Progress.{Progress}
use Rattle.ace_portck.specs.declared.pending.Pending.{Pending}
use Rattle.ace_portck.specs.Targets.{progress_of}

-- it is the port's, on the channel, and outstanding
abbrev pub is_pending : Header → Trace → ℕ → Channel → Transaction → Bool
is_pending h past p c x = (x.port == p) && same_channel x.chan c && is_outstanding h past x

-- the port's outstanding transactions on the channel, in the order of issue
abbrev pub pending_of : Header → Trace → ℕ → Channel → List Transaction
pending_of h past p c = filter (is_pending h past p c) (transactions past)

-- These transactions, each with how far it has come, and the identifiers of the complete ones of an
-- ACE port that wait for their RK or WK, in the order of completion.
pub record ListsStand (h : Header) (past : Trace) (p : ℕ) (c : Channel) (list : List Progress)
    (waiting : List ℕ) : Type 0 where
  pub list_is : list ≡ map (progress_of h past) (pending_of h past p c)
  pub waiting_is : is_ace h p ≡ true
      → waiting ≡ drop (acknowledgements past p c) (completed past p c)

-- there is room for a transaction under each identifier
pub record IsRoomy (s : Pending) : Type 0 where
  pub list : 256 ≤ vec_capacity s.list
  pub waiting : 256 ≤ deque_capacity s.waiting

pub record PendingStands (h : Header) (past : Trace) (p : ℕ) (c : Channel) (s : Pending)
    : Type 0 where
  pub lists : ListsStand h past p c s.list.items s.waiting.items
  pub roomy : IsRoomy s

-- an identifier is a byte, as a program holds it
abbrev pub HasByteId : Event → Type 0
HasByteId (Ar p i addr snoop dom bar lock) = i < 256
HasByteId (Aw p i addr snoop dom bar) = i < 256
HasByteId (R p i resp last word) = i < 256
HasByteId (B p i resp) = i < 256
HasByteId _ = ⊤

-- a read after one more transfer
abbrev pub transferred : ℕ → Bool → Progress → Progress
transferred resp last x = record x {
  transfers = (x.transfers + 1) % 256;
  response = if x.transfers == 0 then resp else x.response;
  complete = x.complete || last;
}

-- how far a transaction has come after an event of its port, by how far it had come before
abbrev pub renewed : Event → Progress → Progress
renewed (R p i resp last word) x =
    if has_name x.transaction p Read i then transferred resp last x else x
renewed (B p i resp) x =
    if has_name x.transaction p Write i then record x { complete = true } else x
renewed (G p c i) x = if has_name x.transaction p c i then record x { granted = true } else x
renewed (M p c i line) x = if has_name x.transaction p c i then record x { written = true } else x
renewed (D p addr strobe x' line) x =
    if (x.transaction.port == p) && is_make_unique_on x.transaction addr && x.complete
    then record x { stored = true } else x
renewed _ x = x

-- how far a transaction has come after an event that names it
abbrev pub advanced : Event → Progress → Progress
advanced (R p i resp last word) x = transferred resp last x
advanced (B p i resp) x = record x { complete = true }
advanced (G p c i) x = record x { granted = true }
advanced (M p c i line) x = record x { written = true }
advanced _ x = x

-- the identifier by which an event names a transaction on the channel
abbrev pub named_by : Event → Channel → Option ℕ
named_by (R p i resp last word) c = if is_read c then Some i else None
named_by (B p i resp) c = if is_read c then None else Some i
named_by (G p d i) c = if same_channel c d then Some i else None
named_by (M p d i line) c = if same_channel c d then Some i else None
named_by _ c = None

-- the event is a D
abbrev pub is_store : Event → Bool
is_store (D p addr strobe x line) = true
is_store _ = false

-- the list with its first transaction under the identifier changed
abbrev pub change_first : (Progress → Progress) → ℕ → List Progress → List Progress
change_first f i [] = []
change_first f i (x ∷ xs) = if x.transaction.id == i then f x ∷ xs else x ∷ change_first f i xs

-- the transactions are the port's, on the channel, each under an identifier of its own
abbrev pub AreApart : ℕ → Channel → List Progress → Type 0
AreApart p c [] = ⊤
AreApart p c (x ∷ xs) =
    (x.transaction.port ≡ p) × (x.transaction.chan ≡ c)
    × AllByRecursion (λ y. (y.transaction.id == x.transaction.id) ≡ false) xs × AreApart p c xs

-- the event is an RK, or a WK for the write channel
abbrev pub is_acknowledge : Event → Channel → Bool
is_acknowledge (Rk p st) c = is_read c
is_acknowledge (Wk p st) c = not (is_read c)
is_acknowledge _ c = false

-- the identifier of the transaction on the channel that an event of the port completes: its last R,
-- or its B
abbrev pub completed_by : Event → Channel → Option ℕ
completed_by (R p i resp last word) c = if is_read c && last then Some i else None
completed_by (B p i resp) c = if is_read c then None else Some i
completed_by _ c = None

-- the identifier of the transaction that an event of the port ends: at an ACE port an RK or WK the
-- one that waits first, at an ACE-Lite port the last R or the B its own
abbrev pub ending_of : List ℕ → Bool → Channel → Event → Option ℕ
ending_of waiting ace c e =
    if is_acknowledge e c then slice_get waiting 0 else if ace then None else completed_by e c

-- the complete ones after an event of the port
abbrev pub waiting_after : List ℕ → Bool → Channel → Event → List ℕ
waiting_after waiting ace c e =
    if is_acknowledge e c then drop 1 waiting
    else if ace then more waiting (completed_by e c) else waiting

-- the transaction, where it is on the channel
abbrev pub on_channel : Channel → Option Transaction → Option Transaction
on_channel c None = None
on_channel c (Some x) = if same_channel x.chan c then Some x else None

-- the transactions of the list but those under the identifier
abbrev pub without_id : Option ℕ → List Progress → List Progress
without_id ended list = filter (λ x. not (is_some_and ended (λ i. x.transaction.id == i))) list

-- the channel on which the event may change something of the outstanding transactions of its port
abbrev pub moved_channel : Event → Option Channel
moved_channel (Ar q i addr snoop dom bar lock) = Some Read
moved_channel (R q i resp last word) = Some Read
moved_channel (Rk q st) = Some Read
moved_channel (D q addr strobe x line) = Some Read
moved_channel (Aw q i addr snoop dom bar) = Some Write
moved_channel (B q i resp) = Some Write
moved_channel (Wk q st) = Some Write
moved_channel (G q c i) = Some c
moved_channel (M q c i line) = Some c
moved_channel _ = None

-- it may change something of those on this channel
abbrev pub moves_channel : Event → Channel → Bool
moves_channel e c = is_some_and (moved_channel e) (same_channel c)

-- and of this port
abbrev pub moves_pending : Event → ℕ → Channel → Bool
moves_pending e p c = is_some_and (port_of e) (λ q. p == q) && moves_channel e c
