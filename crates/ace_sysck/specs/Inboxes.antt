-- What is kept of the parts of messages that are forwarded to each port.
use Rattle.std.specs.Prelude.{ℕ, ◌≡◌, ◌≤◌, ◌<◌, ◌+◌, ◌-◌, ◌*◌, Bool, true, false, ◌&&◌, ◌||◌, ◌==◌, if◌then◌else◌, List, [], ◌∷◌, ◌++◌, length, map, drop, slice_get, Option, Some, None}
use Rattle.std.specs.List.{list_any}
use Rattle.std.specs.Option.{option_map, option_to_list}
use Rattle.std.specs.VecDeque.{deque_capacity}
use Rattle.ace_codes.specs.Snoops.{ac_kind_of}
use Rattle.ace_codes.specs.declared.kind.SnoopKind.{SnoopKind}
use Rattle.ace_event.specs.declared.event.Event.{Event}
use Rattle.ace_event.specs.declared.header.Header.{Header}
use Rattle.ace_model.specs.declared.transactions.Transaction.{Transaction}
use Rattle.ace_model.specs.Trace.{Trace, implies, is_some_and}
use Rattle.ace_model.specs.Kinds.{is_message_snoop}
use Rattle.ace_model.specs.Transactions.{is_ace}
use Rattle.ace_model.specs.Progress.{IsTransaction}
use Rattle.ace_model.specs.Messages.{has_second, is_sync_word, is_second_part, is_sync, parts_for, answered_parts, parts_among, has_part, forwarded, next_part}
use Rattle.ace_portck.specs.Target.{Target}
use Rattle.ace_portck.specs.Targets.{Recording}
use Rattle.ace_sysck.specs.declared.messages.PortMessages.{PortMessages}
use Rattle.ace_sysck.specs.declared.inboxes.Message.{Message}
use Rattle.ace_sysck.specs.declared.inboxes.Part.{Part}
use Rattle.ace_sysck.specs.declared.inboxes.Sent.{Sent}
use Rattle.ace_sysck.specs.declared.inboxes.Inbox.{Inbox}
use Rattle.ace_sysck.specs.declared.inboxes.Inboxes.{Inboxes}
use Rattle.ace_sysck.specs.Steps.{IsAsked}

-- the empty inbox of the port: that of an ACE port has room for a part under each identifier of
-- each port
pub record IsEmptyInbox (h : Header) (q : ℕ) (b : Inbox) : Type 0 where
  pub empty : b.parts.items ≡ []
  pub count : b.forwarded ≡ 0
  pub room : is_ace h q ≡ true → h.ports * 256 ≤ deque_capacity b.parts

-- a part of the trace, and what is known of it
abbrev pub part_of : Trace → Transaction → Part
part_of past x = record { transaction = x; second = is_second_part past x; sync = is_sync past x }

-- the parts that the port has not answered, and how many of them were forwarded to it
pub record InboxStands (past : Trace) (q : ℕ) (parts : List Part) (count : ℕ) : Type 0 where
  pub parts_are : parts
      ≡ map (part_of past) (drop (length (answered_parts past q)) (parts_for past q))
  pub count_is : length (answered_parts past q) + count ≡ length (parts_among (forwarded past q))

pub record InboxesStand (r : Recording) (s : Inboxes) : Type 0 where
  pub size : length s.ports.items ≡ r.header.ports
  pub room : (q : ℕ) (b : Inbox) → slice_get s.ports.items q ≡ Some b → is_ace r.header q ≡ true
      → r.header.ports * 256 ≤ deque_capacity b.parts
  pub ports : (q : ℕ) (b : Inbox) → slice_get s.ports.items q ≡ Some b → is_ace r.header q ≡ true
      → InboxStands r.past q b.parts.items b.forwarded
  pub ids : (x : Transaction) → IsTransaction r.past x → x.id < 256

-- the parts of the message that the port issues with this part, after what it has issued
abbrev pub parts_sent : PortMessages → Transaction → List Part
parts_sent m x = after_first m.first
  where
    after_first : Option Transaction → List Part
    after_first (Some first) =
        record { transaction = first; second = false; sync = is_sync_word first.addr }
        ∷ record { transaction = x; second = true; sync = false } ∷ []
    after_first None =
        if has_second x.addr then []
        else record { transaction = x; second = false; sync = is_sync_word x.addr } ∷ []

-- the parts of what is sent
abbrev pub sent_list : Sent → List Part
sent_list s = option_to_list s.first ++ option_to_list s.last

-- the inbox, once it has received the parts, for which it has room; it has no more room than before
pub record Receives (sent : List Part) (b c : Inbox) : Type 0 where
  pub items : length b.parts.items + length sent ≤ deque_capacity b.parts
      → c.parts.items ≡ b.parts.items ++ sent
  pub count : c.forwarded ≡ b.forwarded
  pub room : deque_capacity c.parts ≡ deque_capacity b.parts

-- what an inbox receives where a port sends
abbrev pub sent_to : ℕ → ℕ → List Part → List Part
sent_to q sender sent = if q == sender then [] else sent

-- the inbox of one port has changed so, and the others are as they were
pub record ChangesOne (p : ℕ) (changes : Inbox → Inbox → Type 0) (s n : Inboxes) : Type 0 where
  pub size : length n.ports.items ≡ length s.ports.items
  pub one : (b : Inbox) → slice_get s.ports.items p ≡ Some b
      → (c : Inbox) × (slice_get n.ports.items p ≡ Some c) × changes b c
  pub others : (k : ℕ) → (k ≡ p → ⊥) → slice_get n.ports.items k ≡ slice_get s.ports.items k

-- the inbox of one port has received what is sent to it
abbrev pub SendsOne : ℕ → ℕ → List Part → Inboxes → Inboxes → Type 0
SendsOne q sender sent s n = ChangesOne q (Receives (sent_to q sender sent)) s n

-- every inbox but that of the sender has received the parts
abbrev pub SendsAll : ℕ → List Part → Inboxes → Inboxes → Type 0
SendsAll sender sent s n =
    (q : ℕ) (b : Inbox) → slice_get s.ports.items q ≡ Some b
    → (c : Inbox) × (slice_get n.ports.items q ≡ Some c) × Receives (sent_to q sender sent) b c

-- one more part is forwarded, where there is one
pub record IsForwarded (b c : Inbox) : Type 0 where
  pub parts : c.parts ≡ b.parts
  pub count : b.forwarded < length b.parts.items → c.forwarded ≡ b.forwarded + 1

abbrev pub ForwardsTo : ℕ → Inboxes → Inboxes → Type 0
ForwardsTo p s n = ChangesOne p IsForwarded s n

-- the first part is gone
pub record LosesFirst (b c : Inbox) : Type 0 where
  pub parts : c.parts.items ≡ drop 1 b.parts.items
  pub count : c.forwarded ≡ b.forwarded - 1
  pub room : deque_capacity c.parts ≡ deque_capacity b.parts

abbrev pub AnswersFirst : ℕ → Inboxes → Inboxes → Type 0
AnswersFirst p s n = ChangesOne p LosesFirst s n

abbrev pub is_sync_part : Part → Bool
is_sync_part p = p.sync

-- the first part of the inbox is a Sync
abbrev pub first_is_sync : Inbox → Bool
first_is_sync b = is_some_and (slice_get b.parts.items 0) is_sync_part

-- the snoop of the target is an AC DVM Message
abbrev pub answers_message : Target → Bool
answers_message t = is_some_and t.snoop (λ s. is_some_and (ac_kind_of s.snoop) is_message_snoop)

-- one of the parts is at the place
abbrev pub has_place : List Part → ℕ → Bool
has_place parts place = list_any (λ p. p.transaction.place == place) parts

-- the part at the place is one that the port has not answered
abbrev pub awaits : Inboxes → ℕ → ℕ → Bool
awaits s q place = is_some_and (slice_get s.ports.items q) (λ b. has_place b.parts.items place)

-- the part at the place is one that was not forwarded to the port
abbrev pub awaits_snoop : Inboxes → ℕ → ℕ → Bool
awaits_snoop s q place =
    is_some_and (slice_get s.ports.items q) (λ b. has_place (drop b.forwarded b.parts.items) place)

-- the part was forwarded to the port
abbrev pub was_forwarded : Trace → Transaction → ℕ → Bool
was_forwarded past x q = has_part (parts_among (forwarded past q)) x

-- the part that is forwarded to the port next
abbrev pub next_in : Option Inbox → Option Part
next_in None = None
next_in (Some b) = slice_get b.parts.items b.forwarded

abbrev pub own_transaction : Part → Transaction
own_transaction part = part.transaction

-- the message that begins with the part, and may have a second one
abbrev pub message_with : Option Transaction → Option Transaction → Option Message
message_with None second = None
message_with (Some first) second =
    Some (record { first = first; second = if has_second first.addr then second else None })

-- the message that begins with the part of this number
abbrev pub next_message_in : List Part → ℕ → Option Message
next_message_in parts k =
    message_with (option_map own_transaction (slice_get parts k))
    (option_map own_transaction (slice_get parts (k + 1)))

-- the message that the inbox has next
abbrev pub message_of : Option Inbox → Option Message
message_of None = None
message_of (Some b) = next_message_in b.parts.items b.forwarded

-- the message that is forwarded to the port next, from its next part on
abbrev pub next_message : Trace → ℕ → Option Message
next_message past q =
    message_with (next_part past q)
    (slice_get (parts_for past q) (length (parts_among (forwarded past q)) + 1))

-- an AC of the kind forwards the next part, and no other AC comes before a second part
abbrev pub forwards_in : Option Part → ℕ → SnoopKind → Bool
forwards_in next addr k =
    implies (is_message_snoop k || is_some_and next (λ p. p.second))
    (is_message_snoop k && is_some_and next (λ p. p.transaction.addr == addr))

pub record MayAskInboxes (r : Recording) (s : Inboxes) (e : Event) (t : Target) : Type 0 where
  pub asked : IsAsked r e t
  pub stands : InboxesStand r s
