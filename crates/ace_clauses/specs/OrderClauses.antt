-- The clauses of the rules of barriers, DVM messages and operations, K34 to K40. K35, K38 and K40
-- have one clause, which is the rule. A clause may presume the earlier ones of its rule.
use Rattle.std.specs.Prelude.{ℕ, Bool, true, not, ◌==◌, Option, None, is_some}
use Rattle.std.specs.List.{list_all}
use Rattle.ace_event.specs.declared.event.Channel.TheVariants.{Read, Write}
use Rattle.ace_event.specs.declared.event.Event.{Event}
use Rattle.ace_event.specs.declared.event.Event.TheVariants.{B, R, Ac}
use Rattle.ace_event.specs.declared.header.Header.{Header}
use Rattle.ace_codes.specs.declared.kind.SnoopKind.{SnoopKind}
use Rattle.ace_codes.specs.Snoops.{ac_kind_of}
use Rattle.ace_model.specs.declared.transactions.Transaction.{Transaction}
use Rattle.ace_model.specs.Trace.{Trace, implies, is_some_and, is_none_or}
use Rattle.ace_model.specs.Kinds.{is_message_snoop, is_complete_snoop}
use Rattle.ace_model.specs.Transactions.{outstanding}
use Rattle.ace_model.specs.Progress.{is_completed}
use Rattle.ace_model.specs.Grants.{ports_below}
use Rattle.ace_model.specs.Barriers.{Pair, may_answer, is_barrier_half, is_synchronisation, pair_of}
use Rattle.ace_model.specs.Messages.{is_message_part, is_second_part, next_part, is_other_ace, forwarded, has_part, parts_among, last_sync, is_sync_completed}
use Rattle.ace_model.specs.OrderRules.{is_answered_by_all, has_every_completion, forwards_next}

-- the outstanding transaction that an R or B answers
abbrev pub response_to : Header → Trace → Event → Option Transaction
response_to h past (R p i resp last word) = outstanding h past p Read i
response_to h past (B p i resp) = outstanding h past p Write i
response_to h past _ = None

-- the test holds of the barrier half that an R or B answers
abbrev pub is_answer_to_barrier : Header → Trace → Event → (Transaction → Bool) → Bool
is_answer_to_barrier h past e test =
    is_none_or (response_to h past e) (λ x. implies (is_barrier_half x) (test x))

-- K34a: both halves of the barrier were issued.
abbrev pub k34a : Header → Trace → Event → Bool
k34a h past e = is_answer_to_barrier h past e (λ x. is_some (pair_of past x))

-- K34b: a memory barrier: each earlier transaction of the port has its order point.
abbrev pub is_memory_barrier_due : Trace → ℕ → Pair → Bool
is_memory_barrier_due past p b = implies (not (is_synchronisation b)) (may_answer past p b)

abbrev pub k34b : Header → Trace → Event → Bool
k34b h past e =
    is_answer_to_barrier h past e (λ x. is_none_or (pair_of past x)
    (is_memory_barrier_due past x.port))

-- K34c: a synchronisation barrier: each earlier transaction of the port is complete.
abbrev pub is_synchronisation_due : Trace → ℕ → Pair → Bool
is_synchronisation_due past p b = implies (is_synchronisation b) (may_answer past p b)

abbrev pub k34c : Header → Trace → Event → Bool
k34c h past e =
    is_answer_to_barrier h past e (λ x. is_none_or (pair_of past x)
    (is_synchronisation_due past x.port))

-- K36a: where the last AC to this port forwards the first of two parts, this one is the AC DVM
-- Message of the second.
abbrev pub forwards_second : Trace → ℕ → ℕ → SnoopKind → Bool
forwards_second past p addr k =
    implies (is_some_and (next_part past p) (is_second_part past)) (forwards_next past p addr k)

abbrev pub k36a : Header → Trace → Event → Bool
k36a h past (Ac p addr snoop) = is_none_or (ac_kind_of snoop) (forwards_second past p addr)
k36a h past _ = true

-- K36b: some message of another port waits for this port, where the AC is a DVM Message.
abbrev pub k36b : Header → Trace → Event → Bool
k36b h past (Ac p addr snoop) =
    is_none_or (ac_kind_of snoop) (λ k. implies (is_message_snoop k) (is_some (next_part past p)))
k36b h past _ = true

-- K36c: it has the address of the part that is next, so that the message that was issued first
-- comes first.
abbrev pub is_next_address : Trace → ℕ → ℕ → Bool
is_next_address past p addr = is_none_or (next_part past p) (λ x. x.addr == addr)

abbrev pub k36c : Header → Trace → Event → Bool
k36c h past (Ac p addr snoop) =
    is_none_or (ac_kind_of snoop) (λ k. implies (is_message_snoop k) (is_next_address past p addr))
k36c h past _ = true

-- the part was forwarded to the port
abbrev pub was_forwarded : Trace → Transaction → ℕ → Bool
was_forwarded past x p = has_part (parts_among (forwarded past p)) x

-- the part was forwarded to every other ACE port
abbrev pub is_forwarded_to_all : Header → Trace → Transaction → Bool
is_forwarded_to_all h past x =
    list_all (λ q. implies (is_other_ace h x.port q) (was_forwarded past x q)) (ports_below h.ports)

-- K37a: the part of a message that an R answers was forwarded to each other ACE port.
abbrev pub k37a : Header → Trace → Event → Bool
k37a h past (R p i resp last word) =
    is_none_or (outstanding h past p Read i) (λ x. implies (is_message_part x)
    (is_forwarded_to_all h past x))
k37a h past _ = true

-- K37b: each of them has answered it.
abbrev pub k37b : Header → Trace → Event → Bool
k37b h past (R p i resp last word) =
    is_none_or (outstanding h past p Read i) (λ x. implies (is_message_part x)
    (is_answered_by_all h past x))
k37b h past _ = true

-- the test holds of the last Sync of the port, where the code is that of a DVM Complete
abbrev pub completes_a_sync : Trace → ℕ → ℕ → (Transaction → Bool) → Bool
completes_a_sync past p snoop test =
    is_none_or (ac_kind_of snoop) (λ k. implies (is_complete_snoop k)
    (is_none_or (last_sync past p) test))

-- K39a: an AC DVM Complete has address 0.
abbrev pub k39a : Header → Trace → Event → Bool
k39a h past (Ac p addr snoop) =
    is_none_or (ac_kind_of snoop) (λ k. implies (is_complete_snoop k) (addr == 0))
k39a h past _ = true

-- K39b: its port has sent a Sync.
abbrev pub k39b : Header → Trace → Event → Bool
k39b h past (Ac p addr snoop) =
    is_none_or (ac_kind_of snoop) (λ k. implies (is_complete_snoop k) (is_some (last_sync past p)))
k39b h past _ = true

-- K39c: the last Sync of the port is answered.
abbrev pub k39c : Header → Trace → Event → Bool
k39c h past (Ac p addr snoop) = completes_a_sync past p snoop (is_completed past)
k39c h past _ = true

-- K39d: it is not completed yet.
abbrev pub k39d : Header → Trace → Event → Bool
k39d h past (Ac p addr snoop) = completes_a_sync past p snoop (λ x. not (is_sync_completed past p))
k39d h past _ = true

-- K39e: each other ACE port has issued its DVM Complete for it.
abbrev pub k39e : Header → Trace → Event → Bool
k39e h past (Ac p addr snoop) = completes_a_sync past p snoop (has_every_completion h past)
k39e h past _ = true
