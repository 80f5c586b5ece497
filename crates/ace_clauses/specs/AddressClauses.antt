-- The clauses of the rules of AR and AW, K1 to K10; K1 and K2 look at other records too. K4, K5, K6
-- and K8 have one clause, which is the rule. A clause is asked only where the earlier ones of its
-- rule hold, and may presume them: where a clause before it asks whether there is something, a
-- later one holds of events that have none.
use Rattle.std.specs.Prelude.{Bool, true, false, not, ◌&&◌, ◌==◌, nat_lt, nat_le, length, take, is_some, is_none, Some}
use Rattle.std.specs.List.{list_all}
use Rattle.ace_codes.specs.declared.kind.AwKind.{AwKind}
use Rattle.ace_event.specs.declared.event.Event.{Event}
use Rattle.ace_event.specs.declared.event.Event.TheVariants.{B, R, Ac, Cr, Ar, Aw, Mem}
use Rattle.ace_event.specs.declared.header.Header.{Header}
use Rattle.ace_codes.specs.Reads.{ar_kind_of}
use Rattle.ace_codes.specs.Responses.{low_bits, has_error}
use Rattle.ace_codes.specs.Snoops.{ac_kind_of}
use Rattle.ace_codes.specs.Writes.{aw_kind_of}
use Rattle.ace_model.specs.declared.transactions.Transaction.{Transaction}
use Rattle.ace_model.specs.Trace.{Trace, port_of, implies, is_some_and, is_none_or}
use Rattle.ace_model.specs.Kinds.{may_be_exclusive, is_unique_write}
use Rattle.ace_model.specs.Transactions.{is_ace, issued, read_kind, write_kind}
use Rattle.ace_model.specs.Barriers.{pairs, is_pair_complete, number_of, partner_of, is_barrier_half}
use Rattle.ace_model.specs.Messages.{is_message_part, is_message_word, is_sync_word, first_waiting, last_sync, is_sync_completed, is_dvm_completion}
use Rattle.ace_model.specs.AddressRules.{wants_ace, may_issue_read, may_issue_write, line_address, is_aligned, is_opened_below, is_like_half, is_part_in_order, has_write, gives_up}

-- K1a: the port is one of the header.
abbrev pub k1a : Header → Trace → Event → Bool
k1a h past e = is_none_or (port_of e) (λ p. nat_lt p h.ports)

-- K1b: RK, WK, AC, CR, CD, S, L and D are of an ACE port.
abbrev pub k1b : Header → Trace → Event → Bool
k1b h past e = is_none_or (port_of e) (λ p. implies (wants_ace e) (is_ace h p))

-- K2a: snoop, domain and bar of an AR or AW together have a kind, and the snoop of an AC has one.
abbrev pub k2a : Header → Trace → Event → Bool
k2a h past (Ar p i addr snoop dom bar lock) = is_some (ar_kind_of snoop dom bar)
k2a h past (Aw p i addr snoop dom bar) = is_some (aw_kind_of snoop dom bar)
k2a h past (Ac p addr snoop) = is_some (ac_kind_of snoop)
k2a h past _ = true

-- K2b: the port may issue that kind.
abbrev pub k2b : Header → Trace → Event → Bool
k2b h past (Ar p i addr snoop dom bar lock) =
    is_none_or (ar_kind_of snoop dom bar) (may_issue_read h p)
k2b h past (Aw p i addr snoop dom bar) = is_none_or (aw_kind_of snoop dom bar) (may_issue_write h p)
k2b h past _ = true

-- K2c: the low two bits of an RRESP or BRESP are 0 or 1.
abbrev pub k2c : Header → Trace → Event → Bool
k2c h past (R p i resp last word) = nat_lt (low_bits resp) 2
k2c h past (B p i resp) = nat_lt (low_bits resp) 2
k2c h past _ = true

-- K2d: the Error bit of a CR is 0.
abbrev pub k2d : Header → Trace → Event → Bool
k2d h past (Cr p resp st) = not (has_error resp)
k2d h past _ = true

-- K3a: the address of a line is a multiple of 64.
abbrev pub k3a : Header → Trace → Event → Bool
k3a h past e = is_none_or (line_address e) is_aligned

-- K3b: a MEM stands in a trace of version 2.
abbrev pub k3b : Header → Trace → Event → Bool
k3b h past (Mem addr line) = h.version == 2
k3b h past _ = true

-- the event is a MEM
abbrev pub opens_a_line : Event → Bool
opens_a_line (Mem addr line) = true
opens_a_line _ = false

-- K3c: a MEM stands after no other event.
abbrev pub k3c : Header → Trace → Event → Bool
k3c h past (Mem addr line) = list_all opens_a_line past
k3c h past _ = true

-- K3d: a MEM has a greater address than each MEM before it.
abbrev pub k3d : Header → Trace → Event → Bool
k3d h past (Mem addr line) = is_opened_below past addr
k3d h past _ = true

-- K3e: a MEM is at most the 4,096th.
abbrev pub k3e : Header → Trace → Event → Bool
k3e h past (Mem addr line) = nat_lt (length past) 4096
k3e h past _ = true

-- K7a: of the kinds of an ACE port only ReadShared, ReadClean and CleanUnique are exclusive.
abbrev pub is_exclusive_kind : Header → Transaction → Bool
is_exclusive_kind h x =
    implies (x.lock && is_ace h x.port) (is_some_and (read_kind x) may_be_exclusive)

abbrev pub k7a : Header → Trace → Event → Bool
k7a h past e = is_none_or (issued (length past) e) (is_exclusive_kind h)

-- K7b: only an ACE port issues an exclusive transaction.
abbrev pub k7b : Header → Trace → Event → Bool
k7b h past e = is_none_or (issued (length past) e) (λ x. implies x.lock (is_ace h x.port))

-- K9a: a barrier has address 0.
abbrev pub k9a : Header → Trace → Event → Bool
k9a h past e = is_none_or (issued (length past) e) (λ x. implies (is_barrier_half x) (x.addr == 0))

-- K9b: each earlier barrier pair of the port was issued whole.
abbrev pub has_whole_pairs : Trace → Transaction → Bool
has_whole_pairs past x = nat_le (number_of past x) (length (pairs past x.port))

abbrev pub k9b : Header → Trace → Event → Bool
k9b h past e =
    is_none_or (issued (length past) e) (λ x. implies (is_barrier_half x) (has_whole_pairs past x))

-- K9c: each earlier barrier pair of the port is answered.
abbrev pub has_answered_pairs : Trace → Transaction → Bool
has_answered_pairs past x =
    list_all (is_pair_complete past) (take (number_of past x) (pairs past x.port))

abbrev pub k9c : Header → Trace → Event → Bool
k9c h past e =
    is_none_or (issued (length past) e) (λ x. implies (is_barrier_half x)
    (has_answered_pairs past x))

-- K9d: the halves of a pair have one bar and domain.
abbrev pub fits_partner : Trace → Transaction → Bool
fits_partner past x = is_none_or (partner_of past x) (is_like_half x)

abbrev pub k9d : Header → Trace → Event → Bool
k9d h past e =
    is_none_or (issued (length past) e) (λ x. implies (is_barrier_half x) (fits_partner past x))

-- the first part of a DVM message
abbrev pub is_first_part : Trace → Transaction → Bool
is_first_part past x = is_message_part x && is_none (first_waiting past x.port)

-- K9e: the word of a first part is one that means an operation.
abbrev pub k9e : Header → Trace → Event → Bool
k9e h past e =
    is_none_or (issued (length past) e) (λ x. implies (is_first_part past x)
    (is_message_word x.addr))

-- K9f: a Sync comes after the completion of the port's last Sync.
abbrev pub is_after_sync : Trace → Transaction → Bool
is_after_sync past x =
    implies (is_sync_word x.addr && is_some (last_sync past x.port)) (is_sync_completed past x.port)

abbrev pub k9f : Header → Trace → Event → Bool
k9f h past e =
    is_none_or (issued (length past) e) (λ x. implies (is_first_part past x) (is_after_sync past x))

-- K9g: a second part of a DVM message has the domain and bar of its first.
abbrev pub fits_first_part : Trace → Transaction → Bool
fits_first_part past x =
    is_none_or (first_waiting past x.port) (λ first. is_part_in_order past x (Some first))

abbrev pub k9g : Header → Trace → Event → Bool
k9g h past e =
    is_none_or (issued (length past) e) (λ x. implies (is_message_part x) (fits_first_part past x))

-- K9h: a DVM Complete has address 0.
abbrev pub k9h : Header → Trace → Event → Bool
k9h h past e =
    is_none_or (issued (length past) e) (λ x. implies (is_dvm_completion x) (x.addr == 0))

-- the write that the event issues, if it is one whose kind passes the first test, finds no
-- outstanding write of the port whose kind passes the second
abbrev pub finds_none : Header → Trace → Event → (AwKind → Bool) → (AwKind → Bool) → Bool
finds_none h past e comes waits =
    is_none_or (issued (length past) e)
    (λ x. is_none_or (write_kind x) (λ k. implies (comes k) (not (has_write h past x.port waits))))

-- K10a: a memory update or Evict is issued with no WriteUnique or WriteLineUnique of the port
-- outstanding.
abbrev pub k10a : Header → Trace → Event → Bool
k10a h past e = finds_none h past e gives_up is_unique_write

-- K10b: a WriteUnique or WriteLineUnique is issued with no memory update or Evict of the port
-- outstanding.
abbrev pub k10b : Header → Trace → Event → Bool
k10b h past e = finds_none h past e is_unique_write gives_up
