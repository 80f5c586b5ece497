-- The steps of the interconnect that serve lines: memory updates, grants, snoops, responses and
-- writes of memory. Each names the burst for a transaction; whether that may come now is a matter
-- of the rules.
use Rattle.std.specs.Prelude.{ℕ, ◌+◌, Bool, not, ◌&&◌, ◌==◌, nat_lt, if◌then◌else◌, List, [], ◌∷◌, ◌++◌, map}
use Rattle.std.specs.List.{list_all, list_any}
use Rattle.std.specs.Option.{option_to_list}
use Rattle.ace_codes.specs.declared.kind.ArKind.{ArKind}
use Rattle.ace_codes.specs.declared.kind.SnoopKind.{SnoopKind}
use Rattle.ace_codes.specs.Snoops.{ac_code}
use Rattle.ace_event.specs.declared.event.Event.{Event}
use Rattle.ace_event.specs.declared.event.Event.TheVariants.{R, B, Ac, G, M}
use Rattle.ace_event.specs.declared.header.Header.{Header}
use Rattle.ace_model.specs.declared.transactions.Transaction.{Transaction}
use Rattle.ace_model.specs.Trace.{Trace, port_of, implies, is_some_and}
use Rattle.ace_model.specs.Kinds.{beats_of, takes_passed_data, is_read_not_shared_dirty}
use Rattle.ace_model.specs.Transactions.{is_read, is_on, is_line, takes_grant, is_outstanding, read_kind, snoop_of, transfers}
use Rattle.ace_model.specs.Progress.{updates_memory, evicts, each_issued}
use Rattle.ace_model.specs.Grants.{is_granted, has_grant, has_sharer, has_passed_data, ports_below}
use Rattle.ace_model.specs.Copies.{is_line_read_transaction, word_of}
use Rattle.ace_model.specs.Replies.{reply_of}
use Rattle.ace_model.specs.ReadRules.{must_be_shared, is_exclusive_okay}
use Rattle.ace_model.specs.WriteRules.{data_of}
use Rattle.ace_model.specs.OrderRules.{is_past_barriers}
use Rattle.ace_runs.specs.SameEvents.{same_event}
use Rattle.ace_runs.specs.Bursts.{is_kept, some_outstanding}

-- the M of the transaction, with the data that it writes
abbrev pub memory_write : Header → Trace → Transaction → List Event
memory_write h past x = map (λ line. M x.port x.chan x.id line) (option_to_list (data_of h past x))

abbrev pub response : Transaction → List Event
response x = B x.port x.id 0 ∷ []

-- step 3: M and B for a memory update, B for an Evict
abbrev pub update_burst : Header → Trace → Transaction → List Event
update_burst h past x =
    if updates_memory x then memory_write h past x ++ response x
    else if evicts x then response x else []

-- the transaction waits for its line
abbrev pub waits : Header → Trace → Transaction → Bool
waits h past x = takes_grant x && is_outstanding h past x && not (has_grant past x.port x.chan x.id)

-- no older transaction waits for the line, but for those that barriers hold
abbrev pub is_first_to_wait : Header → Trace → Transaction → Bool
is_first_to_wait h past x =
    each_issued past (λ y. not (is_on y x.addr && nat_lt y.place x.place
    && waits h past y && is_past_barriers past y))

-- step 5: G
abbrev pub grant_burst : Header → Trace → Transaction → List Event
grant_burst h past x =
    if takes_grant x && is_first_to_wait h past x then G x.port x.chan x.id ∷ [] else []

-- the snoop of a port for the granted transaction
abbrev pub snoop_for : Transaction → SnoopKind → ℕ → Event
snoop_for x k q = Ac q x.addr (ac_code k)

-- the event is such a snoop, of some port
abbrev pub is_snoop_for : Transaction → SnoopKind → Event → Bool
is_snoop_for x k e = is_some_and (port_of e) (λ q. same_event e (snoop_for x k q))

-- step 6: AC to any one or more of the ports that may be snooped
abbrev pub may_snoop : Header → Trace → ℕ → Bool
may_snoop h past p =
    some_outstanding h past p (λ x. is_granted h past x && is_some_and (snoop_of x) (λ k. list_any
    (λ q. is_kept h past (snoop_for x k q)) (ports_below h.ports)))

abbrev pub gives_snoops : Header → Trace → ℕ → List Event → Bool
gives_snoops h past p burst =
    some_outstanding h past p (λ x. is_granted h past x
    && is_some_and (snoop_of x) (λ k. list_all (is_snoop_for x k) burst))

-- a read of this kind can take passed data: its response may say PassDirty beside what it has to
-- say
abbrev pub can_take : Header → Trace → Transaction → ArKind → Bool
can_take h past x k =
    takes_passed_data k && not (is_read_not_shared_dirty k && has_sharer h past x.addr)

abbrev pub takes_dirt : Header → Trace → Transaction → Bool
takes_dirt h past x = is_some_and (read_kind x) (can_take h past x)

-- step 7: M of passed data that the read can't take
abbrev pub passed_burst : Header → Trace → Transaction → List Event
passed_burst h past x =
    if is_read x.chan && has_passed_data h past x && not (takes_dirt h past x)
    then memory_write h past x else []

abbrev pub bit_if : ℕ → Bool → ℕ
bit_if n test = if test then n else 0

-- RRESP: PassDirty where there are passed data, IsShared only where it must be, and EXOKAY where it
-- has to be
abbrev pub response_bits : Header → Trace → Transaction → ℕ
response_bits h past x =
    bit_if 4 (has_passed_data h past x) + bit_if 8 (is_some_and (read_kind x)
    (must_be_shared h past x)) + bit_if 1 (is_exclusive_okay past x)

abbrev pub is_last_beat : Trace → Transaction → Bool
is_last_beat past x = is_some_and (read_kind x) (λ k. transfers past x.port x.id + 1 == beats_of k)

abbrev pub next_word : Trace → Transaction → ℕ
next_word past x =
    if is_line_read_transaction x then word_of (reply_of past x) (transfers past x.port x.id) else 0

-- step 8: one R of a granted read; passed data, if there are any, can be taken
abbrev pub transfer_burst : Header → Trace → Transaction → List Event
transfer_burst h past x =
    if is_read x.chan && is_line x && implies (has_passed_data h past x) (takes_dirt h past x)
    then R x.port x.id (response_bits h past x) (is_last_beat past x) (next_word past x) ∷ []
    else []

-- step 9: M and B of a granted write
abbrev pub write_burst : Header → Trace → Transaction → List Event
write_burst h past x =
    if not (is_read x.chan) && takes_grant x then memory_write h past x ++ response x else []
