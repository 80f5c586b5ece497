-- Which port sends the DVM message that each port gets next.
use Rattle.std.specs.Prelude.{ℕ, Bool, ◌≡◌, ◌<◌, Some, slice_index_or}
use Rattle.ace_codes.specs.Snoops.{ac_kind_of}
use Rattle.ace_event.specs.declared.header.Header.{Header}
use Rattle.ace_model.specs.declared.snoops.Snoop.{Snoop}
use Rattle.ace_model.specs.Kinds.{is_message_snoop}
use Rattle.ace_model.specs.Trace.{Trace, is_some_and}
use Rattle.ace_sysck.specs.declared.inboxes.Message.{Message}
use Rattle.ace_order.specs.Messages.{next_for}
use Rattle.ace_order.specs.declared.senders.NextSenders.{NextSenders}

-- the port that is taken to send the one that the port q gets next; 16 is none
abbrev pub sender_of : NextSenders → ℕ → ℕ
sender_of s q = slice_index_or s.ports q 16

-- that port sends it, where q gets one
abbrev pub IsSender : Header → Trace → NextSenders → ℕ → Type 0
IsSender h past s q =
    (m : Message) → q < 16 → next_for h past q ≡ Some m → sender_of s q ≡ m.first.port

abbrev pub AreSenders : Header → Trace → NextSenders → Type 0
AreSenders h past s = (q : ℕ) → IsSender h past s q

-- the snoop forwards a part of a message
abbrev pub forwards_part : Snoop → Bool
forwards_part s = is_some_and (ac_kind_of s.snoop) is_message_snoop
