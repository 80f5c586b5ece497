-- The rules of barriers, DVM messages and operations, K34 to K40.
use Rattle.std.specs.Prelude.{ℕ, ◌+◌, Bool, true, not, ◌&&◌, ◌||◌, ◌==◌, nat_lt, nat_le, if◌then◌else◌, [], ◌∷◌, length}
use Rattle.std.specs.List.{list_all}
use Rattle.ace_codes.specs.declared.kind.SnoopKind.{SnoopKind}
use Rattle.ace_event.specs.declared.event.Channel.TheVariants.{Read, Write}
use Rattle.ace_event.specs.declared.event.Event.{Event}
use Rattle.ace_event.specs.declared.event.Event.TheVariants.{B, R, G, Ac, Op}
use Rattle.ace_event.specs.declared.header.Header.{Header}
use Rattle.ace_codes.specs.Snoops.{ac_kind_of}
use Rattle.ace_model.specs.declared.transactions.Transaction.{Transaction}
use Rattle.ace_model.specs.Trace.{Trace, implies, is_some_and, is_none_or}
use Rattle.ace_model.specs.Kinds.{is_message_snoop, is_complete_snoop}
use Rattle.ace_model.specs.Transactions.{outstanding, issued}
use Rattle.ace_model.specs.Progress.{is_completed}
use Rattle.ace_model.specs.Grants.{ports_below}
use Rattle.ace_model.specs.Barriers.{may_answer, is_barrier_half, pair_of, place_of, is_pair_complete, pairs}
use Rattle.ace_model.specs.Messages.{is_message_part, is_second_part, next_part, is_other_ace, has_answered, is_dvm_completion, dvm_completes, answered_syncs, sync_number, is_sync_completed, last_sync}

-- a barrier is answered once what is before it has come far enough
abbrev pub may_answer_half : Trace → Transaction → Bool
may_answer_half past x =
    implies (is_barrier_half x) (is_some_and (pair_of past x) (may_answer past x.port))

-- K34: where an R or B answers a barrier, both halves of the pair were issued. For a memory barrier
-- each line transaction of the port with bar 0 before the pair's place has its order point: its M
-- for a memory update, none for Evict, else its G. For a synchronisation barrier each of them is
-- complete, Evict too (Arm IHI 0022E, C8; the order points are our choice).
abbrev pub k34 : Header → Trace → Event → Bool
k34 h past (R p i resp last word) = is_none_or (outstanding h past p Read i) (may_answer_half past)
k34 h past (B p i resp) = is_none_or (outstanding h past p Write i) (may_answer_half past)
k34 h past _ = true

-- the barriers before the transaction are answered, if it is ordered by barriers
abbrev pub is_past_barriers : Trace → Transaction → Bool
is_past_barriers past x =
    implies (x.bar == 0) (list_all (λ b. implies (nat_lt (place_of b) x.place)
    (is_pair_complete past b)) (pairs past x.port))

-- K35: where a G grants a transaction with bar 0, every barrier pair of the port whose place is
-- before it has had its R and B (Arm IHI 0022E, C8).
abbrev pub k35 : Header → Trace → Event → Bool
k35 h past (G p c i) = is_none_or (outstanding h past p c i) (is_past_barriers past)
k35 h past _ = true

-- an AC DVM Message forwards the next part, and no other AC comes before a second part whose first
-- was forwarded
abbrev pub forwards_next : Trace → ℕ → ℕ → SnoopKind → Bool
forwards_next past p addr k =
    implies (is_message_snoop k || is_some_and (next_part past p) (is_second_part past))
    (is_message_snoop k && is_some_and (next_part past p) (λ x. x.addr == addr))

-- K36: where the last AC to this port forwards the first of two parts, this is the AC DVM Message
-- of the second, with its address. Any other AC DVM Message has the address of the first part of
-- the oldest DVM message of another port, in the order in which they are issued, that wasn't yet
-- forwarded to this port (Arm IHI 0022E, C12; the order is our choice).
abbrev pub k36 : Header → Trace → Event → Bool
k36 h past (Ac p addr snoop) = is_none_or (ac_kind_of snoop) (forwards_next past p addr)
k36 h past _ = true

-- every other ACE port has answered the part
abbrev pub is_answered_by_all : Header → Trace → Transaction → Bool
is_answered_by_all h past x =
    list_all (λ q. implies (is_other_ace h x.port q) (has_answered past x q)) (ports_below h.ports)

-- K37: an R of a DVM Message comes after this part was forwarded to every other ACE port and each
-- has answered it (Arm IHI 0022E, C12).
abbrev pub k37 : Header → Trace → Event → Bool
k37 h past (R p i resp last word) =
    is_none_or (outstanding h past p Read i) (λ x. implies (is_message_part x)
    (is_answered_by_all h past x))
k37 h past _ = true

-- K38: the port of an AR DVM Complete has answered more Syncs than it has issued DVM Completes (Arm
-- IHI 0022E, C12).
abbrev pub owes_completion : Trace → Transaction → Bool
owes_completion past x =
    implies (is_dvm_completion x) (nat_lt (dvm_completes past x.port) (answered_syncs past x.port))

abbrev pub k38 : Header → Trace → Event → Bool
k38 h past e = is_none_or (issued (length past) e) (owes_completion past)

-- every other ACE port has sent its DVM Complete for the Sync: as many as Syncs reached it up to
-- this one
abbrev pub has_every_completion : Header → Trace → Transaction → Bool
has_every_completion h past x =
    list_all (λ q. implies (is_other_ace h x.port q)
    (nat_le (sync_number past x q) (dvm_completes past q))) (ports_below h.ports)

abbrev pub may_complete : Header → Trace → ℕ → Transaction → Bool
may_complete h past p x =
    is_completed past x && not (is_sync_completed past p) && has_every_completion h past x

abbrev pub completes_next : Header → Trace → ℕ → ℕ → SnoopKind → Bool
completes_next h past p addr k =
    implies (is_complete_snoop k) ((addr == 0)
    && is_some_and (last_sync past p) (may_complete h past p))

-- K39: an AC DVM Complete has address 0. The port's last Sync is complete and has had no AC DVM
-- Complete. Each other ACE port for which this was the n-th Sync that it answered has issued at
-- least n DVM Completes (Arm IHI 0022E, C12).
abbrev pub k39 : Header → Trace → Event → Bool
k39 h past (Ac p addr snoop) = is_none_or (ac_kind_of snoop) (completes_next h past p addr)
k39 h past _ = true

-- how many operations of the port have retired
abbrev pub retired : Trace → ℕ → ℕ
retired [] p = 0
retired (Op q k res ∷ past) p = if p == q then retired past p + 1 else retired past p
retired (_ ∷ past) p = retired past p

-- K40: the number of an OP is that of the port's earlier OP events.
abbrev pub k40 : Header → Trace → Event → Bool
k40 h past (Op p k res) = k == retired past p
k40 h past _ = true
