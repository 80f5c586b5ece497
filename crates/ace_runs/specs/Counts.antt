-- How many events of a kind a trace has.
use Rattle.std.specs.Prelude.{ℕ, ◌+◌, ◌==◌, List, filter, Bool, true, false, not, ◌&&◌, if◌then◌else◌, [], ◌∷◌}
use Rattle.std.specs.List.{range_with_len}
use Rattle.ace_codes.specs.Snoops.{ac_kind_of}
use Rattle.ace_event.specs.declared.event.Event.{Event}
use Rattle.ace_event.specs.declared.event.Channel.{Channel}
use Rattle.ace_event.specs.declared.event.Event.TheVariants.{R, Rk, W, B, Wk, Ac, Cr, Cd, G, M, S, Op, Mem}
use Rattle.ace_event.specs.declared.header.Header.{Header}
use Rattle.ace_event.specs.Ports.{port_letter}
use Rattle.ace_model.specs.Trace.{Trace, is_some_and}
use Rattle.ace_model.specs.Transactions.{is_read, same_channel, takes_grant, issued}
use Rattle.ace_model.specs.Kinds.{is_message_snoop, is_complete_snoop}
use Rattle.ace_model.specs.Snoops.{snoops_a_line}
use Rattle.ace_model.specs.Messages.{is_message_part, is_dvm_completion}

-- how many events pass the test
abbrev pub counted : (Event → Bool) → Trace → ℕ
counted test [] = 0
counted test (e ∷ past) = if test e then counted test past + 1 else counted test past

-- the event issues a transaction other than a DVM Complete
abbrev pub issues_for_operation : Event → Bool
issues_for_operation e = is_some_and (issued 0 e) (λ x. not (is_dvm_completion x))

-- it is a silent transition
abbrev pub is_silent : Event → Bool
is_silent (S p addr st) = true
is_silent _ = false

-- it retires an operation
abbrev pub is_retirement : Event → Bool
is_retirement (Op p k res) = true
is_retirement _ = false

-- it issues a transaction; one of the channel
abbrev pub issues : Event → Bool
issues e = is_some_and (issued 0 e) (λ x. true)

abbrev pub issues_on : Channel → Event → Bool
issues_on c e = is_some_and (issued 0 e) (λ x. same_channel x.chan c)

-- it issues a read other than a DVM Complete
abbrev pub reads_for_operation : Event → Bool
reads_for_operation e = is_some_and (issued 0 e) (λ x. is_read x.chan && not (is_dvm_completion x))

-- it issues a transaction of a kind that is granted its line; one of the channel
abbrev pub issues_granted : Event → Bool
issues_granted e = is_some_and (issued 0 e) takes_grant

abbrev pub issues_granted_on : Channel → Event → Bool
issues_granted_on c e = is_some_and (issued 0 e) (λ x. same_channel x.chan c && takes_grant x)

-- it issues a part of a DVM message; a DVM Complete
abbrev pub issues_part : Event → Bool
issues_part e = is_some_and (issued 0 e) is_message_part

abbrev pub issues_completion : Event → Bool
issues_completion e = is_some_and (issued 0 e) is_dvm_completion

-- it grants a line; to a transaction of the channel
abbrev pub is_grant : Event → Bool
is_grant (G p c i) = true
is_grant _ = false

abbrev pub grants_on : Channel → Event → Bool
grants_on c (G p d i) = same_channel d c
grants_on c _ = false

-- it writes memory; for a transaction of the channel
abbrev pub writes_memory : Event → Bool
writes_memory (M p c i line) = true
writes_memory _ = false

abbrev pub writes_memory_on : Channel → Event → Bool
writes_memory_on c (M p d i line) = same_channel d c
writes_memory_on c _ = false

-- it is a response to a write
abbrev pub is_response : Event → Bool
is_response (B p i resp) = true
is_response _ = false

-- it is a transfer of a read; the last one of its read; one before that
abbrev pub is_transfer : Event → Bool
is_transfer (R p i resp last word) = true
is_transfer _ = false

abbrev pub is_last_transfer : Event → Bool
is_last_transfer (R p i resp last word) = last
is_last_transfer _ = false

abbrev pub is_earlier_transfer : Event → Bool
is_earlier_transfer (R p i resp last word) = not last
is_earlier_transfer _ = false

-- it gives memory a line before the run
abbrev pub sets_memory : Event → Bool
sets_memory (Mem addr line) = true
sets_memory _ = false

-- it is an acknowledge of a read, of a write
abbrev pub acknowledges_read : Event → Bool
acknowledges_read (Rk p st) = true
acknowledges_read _ = false

abbrev pub acknowledges_write : Event → Bool
acknowledges_write (Wk p st) = true
acknowledges_write _ = false

-- it is a beat of write data
abbrev pub is_write_beat : Event → Bool
is_write_beat (W p strb last word) = true
is_write_beat _ = false

-- it is a snoop
abbrev pub is_snoop : Event → Bool
is_snoop (Ac p addr snoop) = true
is_snoop _ = false

-- it is a snoop of a line, one that forwards a part of a DVM message, one that completes a Sync
abbrev pub snoops_line : Event → Bool
snoops_line (Ac p addr snoop) = snoops_a_line snoop
snoops_line _ = false

abbrev pub forwards_part : Event → Bool
forwards_part (Ac p addr snoop) = is_some_and (ac_kind_of snoop) is_message_snoop
forwards_part _ = false

abbrev pub says_complete : Event → Bool
says_complete (Ac p addr snoop) = is_some_and (ac_kind_of snoop) is_complete_snoop
says_complete _ = false

-- it is an answer to a snoop, a beat of the data of an answer
abbrev pub is_answer : Event → Bool
is_answer (Cr p resp st) = true
is_answer _ = false

abbrev pub is_snoop_beat : Event → Bool
is_snoop_beat (Cd p last word) = true
is_snoop_beat _ = false

-- the ACE ports of the header
abbrev pub ace_ports : Header → List ℕ
ace_ports h = filter (λ p. port_letter h.ace p == 65) (range_with_len 0 h.ports)
