-- How DVM messages are forwarded to the ports.
use Rattle.std.specs.Prelude.{ℕ, ◌≡◌, zero, suc, Bool, ◌==◌, if◌then◌else◌, List, [], ◌∷◌, ◌++◌, map, Option, None}
use Rattle.std.specs.Option.{option_to_list}
use Rattle.ace_codes.specs.declared.kind.SnoopKind.TheVariants as snoop
use Rattle.ace_codes.specs.Snoops.{ac_code}
use Rattle.ace_event.specs.declared.event.Event.{Event}
use Rattle.ace_event.specs.declared.event.Event.TheVariants.{Ac}
use Rattle.ace_event.specs.declared.header.Header.{Header}
use Rattle.ace_model.specs.declared.transactions.Transaction.{Transaction}
use Rattle.ace_model.specs.Messages.{forwarded, parts_among, parts_for}
use Rattle.ace_model.specs.Trace.{Trace, is_some_and}
use Rattle.ace_model.specs.Transactions.{is_ace}
use Rattle.ace_sysck.specs.declared.inboxes.Message.{Message}
use Rattle.ace_sysck.specs.Inboxes.{next_message}

-- What was forwarded to the port are whole messages: all that was for it at some earlier point.
abbrev pub IsForwardedWhole : Trace → ℕ → Type 0
IsForwardedWhole past q =
    (later : List Event) × (before : Trace) × (later ++ before ≡ past)
    × (parts_among (forwarded past q) ≡ parts_for before q)

-- the parts of a message
abbrev pub parts_of : Message → List Transaction
parts_of m = m.first ∷ option_to_list m.second

-- the AC that forwards the part to the port
abbrev pub forwarding : ℕ → Transaction → Event
forwarding q part = Ac q part.addr (ac_code snoop.DvmMessage)

-- the ACs that forward the message to the port
abbrev pub forwards_to : ℕ → Message → List Event
forwards_to q m = map (forwarding q) (parts_of m)

-- the message that the port gets next
abbrev pub next_for : Header → Trace → ℕ → Option Message
next_for h past q = if is_ace h q then next_message past q else None

-- the message is the one that the port gets next
abbrev pub is_next_for : Header → Trace → Message → ℕ → Bool
is_next_for h past m q = is_some_and (next_for h past q) (λ n. n.first.place == m.first.place)

-- what the port gets of the message
abbrev pub given_to : Header → Trace → Message → ℕ → List Event
given_to h past m q = if is_next_for h past m q then forwards_to q m else []

-- what the ports below a number get of the message
abbrev pub given_below : Header → Trace → Message → ℕ → List Event
given_below h past m zero = []
given_below h past m (suc n) = given_below h past m n ++ given_to h past m n
