-- The rules of AR and AW, K1 to K10; K1 and K2 look at other records too. Each test says, of an
-- event after a trace, that the event keeps the rule. A rule is looked at only where the event
-- keeps every rule with a smaller number.
use Rattle.std.specs.Prelude.{ℕ, ◌%◌, Bool, true, false, not, ◌&&◌, ◌||◌, ◌==◌, nat_lt, nat_le, if◌then◌else◌, length, take, Option, Some, None, is_some, is_none, [], ◌∷◌}
use Rattle.std.specs.List.{list_all}
use Rattle.ace_codes.specs.declared.kind.ArKind.{ArKind}
use Rattle.ace_codes.specs.declared.kind.AwKind.{AwKind}
use Rattle.ace_event.specs.declared.event.Event.{Event}
use Rattle.ace_event.specs.declared.event.Event.TheVariants.{B, Rk, R, Wk, Ac, Cr, Cd, S, L, D, Ar, Aw, Mem}
use Rattle.ace_event.specs.declared.header.Header.{Header}
use Rattle.ace_codes.specs.Reads.{ar_kind_of}
use Rattle.ace_codes.specs.Responses.{low_bits, has_error}
use Rattle.ace_codes.specs.Snoops.{ac_kind_of}
use Rattle.ace_codes.specs.Writes.{aw_kind_of}
use Rattle.ace_tables.specs.Answers.{same_test}
use Rattle.ace_tables.specs.StartStates.{starts_read, starts_write}
use Rattle.ace_model.specs.declared.transactions.Transaction.{Transaction}
use Rattle.ace_model.specs.Trace.{Trace, port_of, implies, is_some_and, is_none_or}
use Rattle.ace_model.specs.Kinds.{is_lite_read, is_lite_write, is_line_read, is_line_write, may_be_exclusive, is_no_snoop_read, is_no_snoop_write, is_update, is_evict, is_unique_write}
use Rattle.ace_model.specs.Transactions.{is_ace, is_line, outstanding, issued, has_outstanding_on, read_kind, write_kind, is_on, some_issued, is_outstanding}
use Rattle.ace_model.specs.Progress.{each_issued}
use Rattle.ace_model.specs.Snoops.{snoops_a_line}
use Rattle.ace_model.specs.States.{state_of}
use Rattle.ace_model.specs.Barriers.{pairs, is_pair_complete, number_of, partner_of, is_barrier_half}
use Rattle.ace_model.specs.Messages.{is_message_part, is_message_word, is_sync_word, first_waiting, last_sync, is_sync_completed, is_dvm_completion}

-- events that only a master with a cache has: acknowledges, snoops and their answers and data,
-- silent transitions, loads and stores
abbrev pub wants_ace : Event → Bool
wants_ace (Rk p st) = true
wants_ace (Wk p st) = true
wants_ace (Ac p addr snoop) = true
wants_ace (Cr p resp st) = true
wants_ace (Cd p last word) = true
wants_ace (S p addr st) = true
wants_ace (L p addr w x word) = true
wants_ace (D p addr strobe x line) = true
wants_ace _ = false

-- the port may have the event
abbrev pub may_have : Header → Event → ℕ → Bool
may_have h e p = nat_lt p h.ports && implies (wants_ace e) (is_ace h p)

-- K1: the port is in the header, and it is an ACE port for RK, WK, AC, CR, CD, S, L and D (Arm IHI
-- 0022E, C11). A MEM names no port.
abbrev pub k1 : Header → Trace → Event → Bool
k1 h past e = is_none_or (port_of e) (may_have h e)

-- the port may issue a read, a write of this kind
abbrev pub may_issue_read : Header → ℕ → ArKind → Bool
may_issue_read h p k = is_ace h p || is_lite_read k

abbrev pub may_issue_write : Header → ℕ → AwKind → Bool
may_issue_write h p k = is_ace h p || is_lite_write k

-- the codes have a kind that the port may issue, and no response is an error
abbrev pub has_known_codes : Header → Event → Bool
has_known_codes h (Ar p i addr snoop dom bar lock) =
    is_some_and (ar_kind_of snoop dom bar) (may_issue_read h p)
has_known_codes h (Aw p i addr snoop dom bar) =
    is_some_and (aw_kind_of snoop dom bar) (may_issue_write h p)
has_known_codes h (Ac p addr snoop) = is_some (ac_kind_of snoop)
has_known_codes h (R p i resp last word) = nat_lt (low_bits resp) 2
has_known_codes h (B p i resp) = nat_lt (low_bits resp) 2
has_known_codes h (Cr p resp st) = not (has_error resp)
has_known_codes h _ = true

-- K2: the codes of AR, AW and AC have a kind that the port may issue; RRESP and BRESP are OKAY or
-- EXOKAY in their low two bits; the Error bit of CRRESP is 0 (Arm IHI 0022E, C3.1.3, C3.2.1, C3.6.1
-- and C3.7).
abbrev pub k2 : Header → Trace → Event → Bool
k2 h past e = has_known_codes h e

-- the address of the line that the event names
abbrev pub line_address : Event → Option ℕ
line_address (Ar p i addr snoop dom bar lock) =
    if is_some_and (ar_kind_of snoop dom bar) is_line_read then Some addr else None
line_address (Aw p i addr snoop dom bar) =
    if is_some_and (aw_kind_of snoop dom bar) is_line_write then Some addr else None
line_address (Ac p addr snoop) = if snoops_a_line snoop then Some addr else None
line_address (S p addr st) = Some addr
line_address (L p addr w x word) = Some addr
line_address (D p addr strobe x line) = Some addr
line_address (Mem addr line) = Some addr
line_address _ = None

-- the address is a multiple of the 64 bytes of a line
abbrev pub is_aligned : ℕ → Bool
is_aligned addr = addr % 64 == 0

-- every event of the trace is a MEM with a smaller address
abbrev pub is_opened_below : Trace → ℕ → Bool
is_opened_below [] addr = true
is_opened_below (Mem before line ∷ past) addr = is_opened_below past addr && nat_lt before addr
is_opened_below (_ ∷ past) addr = false

-- the trace is of version 2, every event before is a MEM with a smaller address, and there are
-- fewer than 4,096 of them
abbrev pub opens_memory : Header → Trace → ℕ → Bool
opens_memory h past addr =
    (h.version == 2) && is_opened_below past addr && nat_lt (length past) 4096

-- a MEM opens memory
abbrev pub may_open : Header → Trace → Event → Bool
may_open h past (Mem addr line) = opens_memory h past addr
may_open h past _ = true

-- K3: in AR, AW, AC, S, L, D and MEM the address of a line is a multiple of 64. A MEM stands in a
-- trace of version 2, after no event but MEM events, with a greater address than each of them, and
-- it is at most the 4,096th (our choice).
abbrev pub k3 : Header → Trace → Event → Bool
k3 h past e = is_none_or (line_address e) is_aligned && may_open h past e

-- K4: no transaction of the port, channel and identifier of an AR or AW is outstanding (our
-- choice).
abbrev pub has_free_name : Header → Trace → Transaction → Bool
has_free_name h past x = is_none (outstanding h past x.port x.chan x.id)

abbrev pub k4 : Header → Trace → Event → Bool
k4 h past e = is_none_or (issued (length past) e) (has_free_name h past)

-- K5: no transaction of the port on the line of an AR or AW is outstanding (our choice).
abbrev pub has_free_line : Header → Trace → Transaction → Bool
has_free_line h past x = implies (is_line x) (not (has_outstanding_on h past x.port x.addr))

abbrev pub k5 : Header → Trace → Event → Bool
k5 h past e = is_none_or (issued (length past) e) (has_free_line h past)

-- K6: the port's state of the line is a start state of the kind of the AR or AW (Arm IHI 0022E,
-- C4).
abbrev pub starts_well : Header → Trace → Transaction → Bool
starts_well h past x =
    implies (is_line x) (is_none_or (read_kind x)
    (λ k. starts_read k (state_of h past x.port x.addr))
    && is_none_or (write_kind x) (λ k. starts_write k (state_of h past x.port x.addr)))

abbrev pub k6 : Header → Trace → Event → Bool
k6 h past e = is_none_or (issued (length past) e) (starts_well h past)

-- K7: an AR has lock 0, or its kind is ReadShared, ReadClean or CleanUnique at an ACE port (Arm IHI
-- 0022E, C9).
abbrev pub may_lock : Header → Transaction → Bool
may_lock h x = implies x.lock (is_ace h x.port && is_some_and (read_kind x) may_be_exclusive)

abbrev pub k7 : Header → Trace → Event → Bool
k7 h past e = is_none_or (issued (length past) e) (may_lock h)

-- a transaction of lines that no cache holds
abbrev pub is_no_snoop : Transaction → Bool
is_no_snoop x =
    is_some_and (read_kind x) is_no_snoop_read || is_some_and (write_kind x) is_no_snoop_write

-- both are NoSnoop, or none is, if they are of one line
abbrev pub is_used_alike : Transaction → Transaction → Bool
is_used_alike x y = implies (is_on y x.addr) (same_test (is_no_snoop x) (is_no_snoop y))

abbrev pub fits_line : Trace → Transaction → Bool
fits_line past x = implies (is_line x) (each_issued past (is_used_alike x))

-- K8: every earlier transaction of the line of an AR or AW is NoSnoop exactly if this one is (our
-- choice).
abbrev pub k8 : Header → Trace → Event → Bool
k8 h past e = is_none_or (issued (length past) e) (fits_line past)

-- the first pairs of the port, so many, were issued and are complete
abbrev pub are_complete : Trace → ℕ → ℕ → Bool
are_complete past p n =
    nat_le n (length (pairs past p)) && list_all (is_pair_complete past) (take n (pairs past p))

-- both halves of a barrier are alike; their identifiers aren't compared
abbrev pub is_like_half : Transaction → Transaction → Bool
is_like_half x y = (x.bar == y.bar) && (x.dom == y.dom)

abbrev pub begins_barrier : Trace → Transaction → Bool
begins_barrier past x =
    (x.addr == 0) && are_complete past x.port (number_of past x)
    && is_none_or (partner_of past x) (is_like_half x)

-- a first part; a port has one Sync at a time, until the interconnect says that it is completed
abbrev pub begins_message : Trace → Transaction → Bool
begins_message past x =
    is_message_word x.addr
    && implies (is_sync_word x.addr && is_some (last_sync past x.port))
    (is_sync_completed past x.port)

-- a part, after the first part of the port that waits for its second, if there is one
abbrev pub is_part_in_order : Trace → Transaction → Option Transaction → Bool
is_part_in_order past x (Some first) = (x.dom == first.dom) && (x.bar == first.bar)
is_part_in_order past x None = begins_message past x

abbrev pub begins_well : Trace → Transaction → Bool
begins_well past x =
    implies (is_barrier_half x) (begins_barrier past x)
    && implies (is_message_part x) (is_part_in_order past x (first_waiting past x.port))
    && implies (is_dvm_completion x) (x.addr == 0)

-- K9: a barrier has address 0, and every earlier pair of the port is complete on both channels; its
-- own other half, if it was issued, has the same bar and domain. The first part of a DVM message
-- has a word that means one, and is a Sync only where the port's last Sync, if there was one, has
-- had its AC DVM Complete; a second part has the domain and bar of its first. A DVM Complete has
-- address 0 (Arm IHI 0022E, C8 and C12).
abbrev pub k9 : Header → Trace → Event → Bool
k9 h past e = is_none_or (issued (length past) e) (begins_well past)

-- the port has an outstanding write whose kind passes the test
abbrev pub has_write : Header → Trace → ℕ → (AwKind → Bool) → Bool
has_write h past p test =
    some_issued past (λ y. (y.port == p) && is_some_and (write_kind y) test
    && is_outstanding h past y)

-- memory updates and Evict tell of a line that the port holds
abbrev pub gives_up : AwKind → Bool
gives_up k = is_update k || is_evict k

abbrev pub keeps_apart : Header → Trace → ℕ → AwKind → Bool
keeps_apart h past p k =
    implies (gives_up k) (not (has_write h past p is_unique_write))
    && implies (is_unique_write k) (not (has_write h past p gives_up))

-- K10: a memory update or an Evict is issued while no WriteUnique and no WriteLineUnique of the
-- port is outstanding, and the other way round (Arm IHI 0022E, C4).
abbrev pub k10 : Header → Trace → Event → Bool
k10 h past e =
    is_none_or (issued (length past) e) (λ x. is_none_or (write_kind x) (keeps_apart h past x.port))
