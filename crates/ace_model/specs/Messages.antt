-- DVM messages (Arm IHI 0022E, C12). A message has one part or two, each an AR DVM Message; the
-- first part says whether a second follows, and the message is issued with its last part. The
-- interconnect forwards the messages of the other ports to each ACE port, in the order in which
-- they are issued, each part by an AC DVM Message. A Sync asks every port to say, by a DVM Complete
-- of its own, that it has done what came before.
use Rattle.std.specs.Prelude.{ℕ, ◌+◌, ◌/◌, ◌%◌, Bool, true, false, not, ◌&&◌, ◌||◌, ◌==◌, if◌then◌else◌, List, [], ◌∷◌, ◌++◌, length, take, slice_get, Option, Some, None, is_some}
use Rattle.std.specs.Int.{bit_at}
use Rattle.std.specs.List.{count_by, flat_map, list_any}
use Rattle.std.specs.Option.{option_to_list}
use Rattle.ace_event.specs.declared.event.Event.{Event}
use Rattle.ace_event.specs.declared.event.Event.TheVariants.{Ac}
use Rattle.ace_event.specs.declared.header.Header.{Header}
use Rattle.ace_codes.specs.Places.{entry}
use Rattle.ace_codes.specs.Snoops.{ac_kind_of}
use Rattle.ace_tables.specs.Answers.{same_test}
use Rattle.ace_model.specs.declared.snoops.Snoop.{Snoop}
use Rattle.ace_model.specs.declared.transactions.Transaction.{Transaction}
use Rattle.ace_model.specs.Trace.{is_some_and, Trace, at_point, option_filter, newer}
use Rattle.ace_model.specs.Kinds.{is_dvm_message, is_dvm_complete, is_message_snoop, is_complete_snoop}
use Rattle.ace_model.specs.Transactions.{read_kind, issued, is_ace}
use Rattle.ace_model.specs.Progress.{transactions}
use Rattle.ace_model.specs.Snoops.{snoop_at, answers}

-- what a DVM message asks for, in bits 14 to 12 of its word
pub data Operation : Type 0 where
  TlbInvalidate : Operation
  BranchPredictorInvalidate : Operation
  PhysicalInstructionCacheInvalidate : Operation
  VirtualInstructionCacheInvalidate : Operation
  Sync : Operation
  Hint : Operation

-- their codes; the others mean nothing
abbrev pub operations : List (ℕ × Operation)
operations =
    (0, TlbInvalidate)
    ∷ (1, BranchPredictorInvalidate)
    ∷ (2, PhysicalInstructionCacheInvalidate)
    ∷ (3, VirtualInstructionCacheInvalidate)
    ∷ (4, Sync)
    ∷ (6, Hint)
    ∷ []

abbrev pub operation_of : ℕ → Option Operation
operation_of word = entry (word / 4096 % 8) operations

abbrev pub is_sync_operation : Operation → Bool
is_sync_operation Sync = true
is_sync_operation _ = false

-- the word is that of a Sync
abbrev pub is_sync_word : ℕ → Bool
is_sync_word word = is_some_and (operation_of word) is_sync_operation

-- a second part follows a first part with this word
abbrev pub has_second : ℕ → Bool
has_second word = bit_at word 0 == 1

-- the word is one of a first part: bit 15 is 1 exactly for a Sync, and no second part follows a
-- Sync (our choice)
abbrev pub is_message_word : ℕ → Bool
is_message_word word =
    is_some (operation_of word) && same_test (bit_at word 15 == 1) (is_sync_word word)
    && not (is_sync_word word && has_second word)

-- a part of a message: an AR DVM Message
abbrev pub is_message_part : Transaction → Bool
is_message_part x = is_some_and (read_kind x) is_dvm_message

abbrev pub is_dvm_completion : Transaction → Bool
is_dvm_completion x = is_some_and (read_kind x) is_dvm_complete

-- the port's part, where the event issues one
abbrev pub part_in : Option Transaction → ℕ → Option Transaction
part_in o p = option_filter (λ x. is_message_part x && (x.port == p)) o

-- the first part that waits for its second once this part is issued, which is the second of the one
-- that waits, or a first one
abbrev pub waits_after : Option Transaction → Option Transaction → Option Transaction
waits_after waiting None = waiting
waits_after (Some first) (Some x) = None
waits_after None (Some x) = if has_second x.addr then Some x else None

-- the port's last part, where it is a first part that a second follows
abbrev pub first_waiting : Trace → ℕ → Option Transaction
first_waiting [] p = None
first_waiting (e ∷ past) p = waits_after (first_waiting past p) (part_in (issued (length past) e) p)

-- the part of the trace is a second one
abbrev pub is_second_part : Trace → Transaction → Bool
is_second_part past x = is_some (first_waiting (at_point x.place past) x.port)

-- it is a Sync; a second part is none, whatever its word is
abbrev pub is_sync : Trace → Transaction → Bool
is_sync past x = is_message_part x && is_sync_word x.addr && not (is_second_part past x)

-- the parts of the message that is issued with this part, after the first part that waits
abbrev pub parts_with : Option Transaction → Transaction → List Transaction
parts_with (Some first) x = first ∷ x ∷ []
parts_with None x = if has_second x.addr then [] else x ∷ []

-- the parts of the message of another port than p, where the event issues one
abbrev pub parts_in : Trace → Option Transaction → ℕ → List Transaction
parts_in past None p = []
parts_in past (Some x) p =
    if is_message_part x && not (x.port == p) then parts_with (first_waiting past x.port) x else []

-- the parts that are forwarded to the port: those of the messages of the other ports, in the order
-- in which these are issued
abbrev pub parts_for : Trace → ℕ → List Transaction
parts_for [] p = []
parts_for (e ∷ past) p = parts_for past p ++ parts_in past (issued (length past) e) p

-- those parts that are there
abbrev pub parts_among : List (Option Transaction) → List Transaction
parts_among parts = flat_map option_to_list parts

-- the part for the port that comes after those that were forwarded
abbrev pub next_after : Trace → ℕ → List (Option Transaction) → Option Transaction
next_after past p done = slice_get (parts_for past p) (length (parts_among done))

-- the part that a snoop forwards: an AC DVM Message forwards the next one, if it has its address
abbrev pub forwards : Option Transaction → Snoop → Option Transaction
forwards None s = None
forwards (Some x) s =
    if is_some_and (ac_kind_of s.snoop) is_message_snoop && (x.addr == s.addr) then Some x else None

abbrev pub add_forwarded : Trace → ℕ → List (Option Transaction)
    → Option Snoop → List (Option Transaction)
add_forwarded past p done None = done
add_forwarded past p done (Some s) = done ++ forwards (next_after past p done) s ∷ []

-- for each snoop of the port, in order, the part that it forwards
abbrev pub forwarded : Trace → ℕ → List (Option Transaction)
forwarded [] p = []
forwarded (e ∷ past) p = add_forwarded past p (forwarded past p) (snoop_at (length past) e p)

-- the part that is forwarded to the port next
abbrev pub next_part : Trace → ℕ → Option Transaction
next_part past p = next_after past p (forwarded past p)

-- the parts that the port has answered: those that its answered snoops forward
abbrev pub answered_parts : Trace → ℕ → List Transaction
answered_parts past p = parts_among (take (answers past p) (forwarded past p))

-- the part is among these
abbrev pub has_part : List Transaction → Transaction → Bool
has_part parts x = list_any (λ y. y.place == x.place) parts

-- the part was forwarded to the port, which has answered it
abbrev pub has_answered : Trace → Transaction → ℕ → Bool
has_answered past x p = has_part (answered_parts past p) x

-- how many Syncs the port has answered
abbrev pub answered_syncs : Trace → ℕ → ℕ
answered_syncs past p = count_by (is_sync past) (answered_parts past p)

-- which of the Syncs that the port gets the Sync is, from 1
abbrev pub sync_number : Trace → Transaction → ℕ → ℕ
sync_number past x p = count_by (is_sync past) (parts_for (at_point x.place past) p) + 1

-- how many DVM Completes the port has issued
abbrev pub dvm_completes : Trace → ℕ → ℕ
dvm_completes past p = count_by (λ x. is_dvm_completion x && (x.port == p)) (transactions past)

-- the port's Sync, where the event issues one
abbrev pub sync_in : Trace → Option Transaction → ℕ → Option Transaction
sync_in past o p = option_filter (λ x. is_sync past x && (x.port == p)) o

-- the port's last Sync
abbrev pub last_sync : Trace → ℕ → Option Transaction
last_sync [] p = None
last_sync (e ∷ past) p = newer (sync_in past (issued (length past) e) p) (last_sync past p)

-- the event is an AC DVM Complete to the port
abbrev pub completes_sync : Event → ℕ → Bool
completes_sync (Ac q addr snoop) p = (p == q) && is_some_and (ac_kind_of snoop) is_complete_snoop
completes_sync _ p = false

-- the port's last Sync has had its AC DVM Complete
abbrev pub is_sync_completed : Trace → ℕ → Bool
is_sync_completed [] p = false
is_sync_completed (e ∷ past) p =
    completes_sync e p || (not (is_some (sync_in past (issued (length past) e) p))
    && is_sync_completed past p)

-- an ACE port other than p
abbrev pub is_other_ace : Header → ℕ → ℕ → Bool
is_other_ace h p q = is_ace h q && not (q == p)
