-- The steps of the interconnect that order: the responses of barriers, and DVM messages.
use Rattle.std.specs.Prelude.{ℕ, Bool, true, not, ◌&&◌, ◌||◌, ◌==◌, if◌then◌else◌, List, [], ◌∷◌, map, filter, Option, Some, None}
use Rattle.std.specs.List.{list_all, list_any}
use Rattle.ace_codes.specs.declared.kind.SnoopKind.TheVariants as snoop
use Rattle.ace_codes.specs.Snoops.{ac_code}
use Rattle.ace_event.specs.declared.event.Event.{Event}
use Rattle.ace_event.specs.declared.event.Event.TheVariants.{R, B, Ac}
use Rattle.ace_event.specs.declared.header.Header.{Header}
use Rattle.ace_model.specs.declared.transactions.Transaction.{Transaction}
use Rattle.ace_model.specs.Trace.{Trace, port_of, at_point, is_some_and, is_none_or}
use Rattle.ace_model.specs.Kinds.{is_read_barrier}
use Rattle.ace_model.specs.Transactions.{some_issued, read_kind}
use Rattle.ace_model.specs.Grants.{ports_below}
use Rattle.ace_model.specs.Barriers.{Pair, pair_of}
use Rattle.ace_model.specs.Messages.{is_message_part, is_dvm_completion, is_other_ace, first_waiting, parts_with, parts_among, forwarded, next_part, has_part}
use Rattle.ace_runs.specs.Segments.{is_at_port}
use Rattle.ace_runs.specs.SameEvents.{same_burst}
use Rattle.ace_runs.specs.Bursts.{may_begin}

-- the one transfer of a read without a line
abbrev pub plain_transfer : Transaction → Event
plain_transfer x = R x.port x.id 0 true 0

abbrev pub pair_burst : Option Pair → List Event
pair_burst None = []
pair_burst (Some b) = plain_transfer b.read ∷ B b.write.port b.write.id 0 ∷ []

-- step 10: R and B of a barrier pair
abbrev pub barrier_burst : Header → Trace → Transaction → List Event
barrier_burst h past x =
    if is_some_and (read_kind x) is_read_barrier then pair_burst (pair_of past x) else []

-- the parts of the DVM message that is issued with this part; there are none where a second part is
-- to follow
abbrev pub message_of : Trace → Transaction → List Transaction
message_of past x = parts_with (first_waiting (at_point x.place past) x.port) x

-- the parts of it that the port hasn't had
abbrev pub parts_missing : Trace → Transaction → ℕ → List Transaction
parts_missing past x q =
    filter (λ y. not (has_part (parts_among (forwarded past q)) y)) (message_of past x)

-- what the port is to get of the message: the ACs that are missing, where it is the next for the
-- port
abbrev pub forwarded_to : Header → Trace → Transaction → ℕ → List Event
forwarded_to h past x q =
    if is_other_ace h x.port q && is_some_and (next_part past q) (has_part (message_of past x))
    then map (λ y. Ac q y.addr (ac_code snoop.DvmMessage)) (parts_missing past x q) else []

abbrev pub is_part_of : ℕ → Transaction → Bool
is_part_of p x = is_message_part x && (x.port == p)

-- the events of each port are next to each other
abbrev pub begins_at : Event → List Event → Bool
begins_at e [] = true
begins_at e (f ∷ burst) = is_none_or (port_of e) (λ q. is_at_port q f)

abbrev pub is_by_port : List Event → Bool
is_by_port [] = true
is_by_port (e ∷ burst) =
    (begins_at e burst || is_none_or (port_of e) (λ q. not (list_any (is_at_port q) burst)))
    && is_by_port burst

-- the events of the port are what it is to get of the message
abbrev pub gets_message : Header → Trace → Transaction → List Event → ℕ → Bool
gets_message h past x burst q = same_burst (filter (is_at_port q) burst) (forwarded_to h past x q)

-- step 11: AC of the parts of a message to each port that is to get them
abbrev pub may_forward : Header → Trace → ℕ → Bool
may_forward h past p =
    some_issued past (λ x. is_part_of p x
    && list_any (λ q. may_begin h past (forwarded_to h past x q)) (ports_below h.ports))

abbrev pub forwards : Header → Trace → ℕ → List Event → Bool
forwards h past p burst =
    is_by_port burst && some_issued past (λ x. is_part_of p x
    && list_all (gets_message h past x burst) (ports_below h.ports))

-- step 12: R of a part of a DVM message, or of a DVM Complete
abbrev pub dvm_burst : Header → Trace → Transaction → List Event
dvm_burst h past x = if is_message_part x || is_dvm_completion x then plain_transfer x ∷ [] else []

-- step 13: AC that completes the port's Sync
abbrev pub sync_completion : ℕ → List Event
sync_completion p = Ac p 0 (ac_code snoop.DvmComplete) ∷ []

abbrev pub may_give_completion : Header → Trace → ℕ → Bool
may_give_completion h past p = may_begin h past (sync_completion p)

abbrev pub gives_completion : Header → Trace → ℕ → List Event → Bool
gives_completion h past p burst = same_burst (sync_completion p) burst
