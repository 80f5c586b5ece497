-- The rules that an event asks in earnest: where its port, its line or its kind leaves room for
-- another answer. At most eight.
use Rattle.std.specs.Prelude.{ℕ, Bool, true, false, not, ◌&&◌, ◌||◌, ◌==◌, nat_lt, nat_le, if◌then◌else◌, List, [], ◌∷◌, length, Option, Some, None, is_some}
use Rattle.std.specs.List.{list_any}
use Rattle.ace_codes.specs.Responses.{is_shared, passes_dirty}
use Rattle.ace_codes.specs.Snoops.{ac_kind_of}
use Rattle.ace_codes.specs.declared.kind.ArKind.{ArKind}
use Rattle.ace_codes.specs.declared.kind.ArKind.TheVariants.{CleanUnique, MakeUnique, CleanShared}
use Rattle.ace_codes.specs.declared.kind.AwKind.{AwKind}
use Rattle.ace_event.specs.declared.event.Channel.{Channel}
use Rattle.ace_event.specs.declared.event.Channel.TheVariants.{Read, Write}
use Rattle.ace_event.specs.declared.event.Event.{Event}
use Rattle.ace_event.specs.declared.event.Event.TheVariants.{Ar, Aw, G, R, Rk, W, B, Wk, M, Ac, Cr, Cd, S, L, D, Op}
use Rattle.ace_event.specs.declared.header.Header.{Header}
use Rattle.ace_event.specs.declared.line.Line.{Line}
use Rattle.ace_model.specs.AddressRules.{gives_up}
use Rattle.ace_model.specs.Barriers.{Pair, barriers, is_barrier_half, is_pair_complete, other_channel, pairs, place_of}
use Rattle.ace_model.specs.Copies.{copy_of, is_line_read_transaction, word_of}
use Rattle.ace_model.specs.Grants.{granted, has_passed_data, has_sharer, ports_below, was_snooped}
use Rattle.ace_model.specs.Kinds.{has_write_data, is_complete_snoop, is_message_snoop, is_unique_write}
use Rattle.ace_model.specs.Lines.{is_known}
use Rattle.ace_model.specs.Messages.{is_dvm_completion, is_message_part, is_other_ace}
use Rattle.ace_model.specs.Progress.{has_update, updates_memory}
use Rattle.ace_model.specs.Replies.{reply_of}
use Rattle.ace_model.specs.Snoops.{answered, snoops_a_line}
use Rattle.ace_model.specs.States.{state_of}
use Rattle.ace_model.specs.Trace.{Trace, is_some_and, option_filter}
use Rattle.ace_model.specs.Transactions.{is_ace, is_line, is_read, issued, outstanding, read_kind, takes_grant, write_kind}
use Rattle.ace_model.specs.Writes.{next_write, next_write_beat}
use Rattle.ace_model.specs.declared.snoops.Snoop.{Snoop}
use Rattle.ace_model.specs.declared.transactions.Transaction.{Transaction}
use Rattle.ace_portck.specs.Pending.{pending_of}
use Rattle.ace_portck.specs.Targets.{first_incomplete, own_on, sending, served_in, transaction_in}
use Rattle.ace_portck.specs.declared.target.Progress.{Progress}
use Rattle.ace_sysck.specs.Inboxes.{next_message}
use Rattle.ace_sysck.specs.declared.barriers.Barrier.{Barrier}
use Rattle.ace_sysck.specs.declared.barriers.Barrier.TheVariants.{ReadHalf, WriteHalf}
use Rattle.ace_tables.specs.States.{is_invalid}
use Rattle.ace_points.specs.declared.point.Point.{Point}
use Rattle.ace_points.specs.declared.point.Point.TheVariants.{Rule}

-- the rule, where it is so
abbrev pub asks : ℕ → Bool → Option Point
asks rule so = if so then Some (Rule rule) else None

abbrev pub of_six : Option Point → Option Point → Option Point → Option Point → Option Point
    → Option Point → List (Option Point)
of_six a b c d e f = a ∷ b ∷ c ∷ d ∷ e ∷ f ∷ None ∷ None ∷ []

abbrev pub of_three : Option Point → Option Point → Option Point → List (Option Point)
of_three a b c = of_six a b c None None None

-- K4, K10, K22, K27: how many transactions of the port are outstanding on the channel
abbrev pub outstanding_count : Header → Trace → ℕ → Channel → ℕ
outstanding_count h past p c = length (pending_of h past p c)

-- K5: a line transaction of the port is outstanding
abbrev pub has_line_transaction : Header → Trace → ℕ → Bool
has_line_transaction h past p =
    list_any is_line (pending_of h past p Read) || list_any is_line (pending_of h past p Write)

-- the port holds the line
abbrev pub holds : Header → Trace → ℕ → ℕ → Bool
holds h past p l = not (is_invalid (state_of h past p l))

-- K9: a barrier half, of which the port has issued more on the other channel: its other half is
-- there
abbrev pub is_second_half : Trace → Transaction → Bool
is_second_half past x =
    is_barrier_half x
    && nat_lt (length (barriers past x.port x.chan))
    (length (barriers past x.port (other_channel x.chan)))

-- the same, by the newest barrier of the port
abbrev pub joins : Barrier → Channel → Bool
joins (ReadHalf x) Write = true
joins (WriteHalf x) Read = true
joins b c = false

-- K10: kinds that keep apart from others
abbrev pub keeps_apart : AwKind → Bool
keeps_apart kind = gives_up kind || is_unique_write kind

-- an AR or AW: the identifier of another transaction of the port on the channel could be this one;
-- another line transaction of the port could be on the line; the port holds the line; it is
-- exclusive; the line has had a transaction; it is a part of a message, or a barrier whose other
-- half is there; it keeps apart from other writes, and there are others; it is a DVM Complete
abbrev pub asked_by_issue : Header → Trace → Transaction → List (Option Point)
asked_by_issue h past x =
    asks 4 (nat_lt 0 (outstanding_count h past x.port x.chan))
    ∷ asks 5 (is_line x && has_line_transaction h past x.port)
    ∷ asks 6 (is_line x && holds h past x.port x.addr)
    ∷ asks 7 x.lock
    ∷ asks 8 (is_line x && is_known past x.addr)
    ∷ asks 9 (is_message_part x || is_second_half past x)
    ∷ asks 10 (is_some_and (write_kind x) keeps_apart
    && nat_lt 0 (outstanding_count h past x.port Write))
    ∷ asks 38 (is_dvm_completion x)
    ∷ []

-- the word of the line isn't 0, which memory and copies start with: another one is wrong
abbrev pub has_word : Line → ℕ → Bool
has_word line k = not (word_of line k == 0)

-- K11: a memory update that sends such a word
abbrev pub updates_word : Trace → ℕ → Transaction → Bool
updates_word past p x =
    updates_memory x && has_word (copy_of past p x.addr) (next_write_beat past p)

-- K12: another port has an outstanding transaction on the line that takes a grant
abbrev pub has_taker : Header → Trace → ℕ → ℕ → Bool
has_taker h past q l = is_some_and (own_on h past q (Some l)) (λ y. takes_grant y.transaction)

abbrev pub wants_line : Header → Trace → Transaction → ℕ → Bool
wants_line h past x q = not (q == x.port) && has_taker h past q x.addr

-- a barrier pair of the port that isn't complete passes the test
abbrev pub some_open_pair : Trace → ℕ → (Pair → Bool) → Bool
some_open_pair past p test = list_any (λ b. not (is_pair_complete past b) && test b) (pairs past p)

-- K35: barriers order the transaction, and this one is behind it
abbrev pub is_behind : Transaction → Pair → Bool
is_behind x b = (x.bar == 0) && nat_le x.place (place_of b)

abbrev pub is_before_barrier : Trace → Transaction → Bool
is_before_barrier past x = some_open_pair past x.port (is_behind x)

abbrev pub asked_by_grant : Header → Trace → Transaction → List (Option Point)
asked_by_grant h past x =
    of_three (asks 12 (list_any (wants_line h past x) (ports_below h.ports)))
    (asks 35 (is_before_barrier past x))
    None

-- K36: an AC DVM Message of a message that has one more part
abbrev pub forwards_two : Header → Trace → ℕ → ℕ → Bool
forwards_two h past p snoop =
    is_ace h p && is_some_and (ac_kind_of snoop) is_message_snoop
    && is_some_and (next_message past p) (λ m. is_some m.second)

abbrev pub asked_by_snoop : Header → Trace → ℕ → ℕ → List (Option Point)
asked_by_snoop h past p snoop =
    of_three (asks 13 (snoops_a_line snoop))
    (asks 36 (forwards_two h past p snoop))
    (asks 39 (is_some_and (ac_kind_of snoop) is_complete_snoop))

-- an answer of a port that holds the line; and one beside a memory update of the line
abbrev pub asked_by_answer : Header → Trace → ℕ → Snoop → List (Option Point)
asked_by_answer h past p s =
    of_three (asks 14 true)
    (asks 15 (snoops_a_line s.snoop && holds h past p s.addr))
    (asks 16 (snoops_a_line s.snoop && holds h past p s.addr && has_update h past p s.addr))

-- the transaction, where it is the one that is granted on its line
abbrev pub under_grant : Header → Trace → Transaction → Option Transaction
under_grant h past x = option_filter (λ y. y.place == x.place) (granted h past x.addr)

-- K18, K24: a port was snooped under the grant of the transaction
abbrev pub has_snooped : Header → Trace → Transaction → Bool
has_snooped h past x =
    is_some_and (under_grant h past x)
    (λ _. list_any (λ q. was_snooped past q x.addr) (ports_below h.ports))

-- K19: it has passed data, or an answer under its grant has IsShared
abbrev pub is_told : Header → Trace → Transaction → Bool
is_told h past x =
    is_some_and (under_grant h past x) (λ y. has_passed_data h past y || has_sharer h past x.addr)

-- K20: its reply has such a word next
abbrev pub gets_word : Header → Trace → Progress → Bool
gets_word h past x =
    is_some_and (under_grant h past x.transaction)
    (λ y. is_line_read_transaction y && has_word (reply_of past y) x.transfers)

-- K34: it is a half of a barrier before which a transaction isn't complete
abbrev pub is_half : Transaction → Pair → Bool
is_half x b = (x.place == b.read.place) || (x.place == b.write.place)

abbrev pub has_incomplete : Trace → Transaction → Pair → Bool
has_incomplete past x b =
    is_half x b && is_some_and (first_incomplete past x.port) (λ n. nat_lt n (place_of b))

abbrev pub answers_early : Trace → Transaction → Bool
answers_early past x = some_open_pair past x.port (has_incomplete past x)

-- K37: a part of a DVM message that another ACE port has to answer
abbrev pub awaits_answers : Header → Transaction → Bool
awaits_answers h x =
    is_message_part x && list_any (is_other_ace h x.port) (ports_below h.ports)

-- an R, of a read that has come so far
abbrev pub asked_by_transfer : Header → Trace → Progress → List (Option Point)
asked_by_transfer h past x =
    of_six (asks 18 ((x.transfers == 0) && has_snooped h past x.transaction))
    (asks 19 (is_told h past x.transaction))
    (asks 20 (gets_word h past x))
    (asks 21 x.transaction.lock)
    (asks 34 (answers_early past x.transaction))
    (asks 37 (awaits_answers h x.transaction))

-- kinds whose port may hold the line while they are outstanding
abbrev pub may_hold : ArKind → Bool
may_hold CleanUnique = true
may_hold MakeUnique = true
may_hold CleanShared = true
may_hold kind = false

-- K23: the end depends on the response, or on what the port holds
abbrev pub ends_by_case : Progress → Bool
ends_by_case x =
    is_shared x.response || passes_dirty x.response
    || is_some_and (read_kind x.transaction) may_hold

abbrev pub asked_by_rack : Header → Trace → Progress → List (Option Point)
asked_by_rack h past x =
    of_three (asks 22 (nat_lt 1 (outstanding_count h past x.transaction.port Read)))
    (asks 23 (ends_by_case x))
    None

abbrev pub asked_by_wack : Header → Trace → Transaction → List (Option Point)
asked_by_wack h past x =
    of_three (asks 27 (nat_lt 1 (outstanding_count h past x.port Write)))
    (asks 28 (is_some_and (write_kind x) gives_up))
    None

abbrev pub asked_by_response : Trace → Transaction → List (Option Point)
asked_by_response past x =
    of_three (asks 26 (is_some_and (write_kind x) has_write_data))
    (asks 34 (answers_early past x))
    None

-- K24: it writes passed data or an update, or snoops were to be awaited
abbrev pub writes_late : Header → Trace → Transaction → Bool
writes_late h past x = is_read x.chan || updates_memory x || has_snooped h past x

abbrev pub asked_by_memory_write : Header → Trace → Transaction → List (Option Point)
asked_by_memory_write h past x = of_three (asks 24 (writes_late h past x)) (asks 25 true) None

-- what there is asks so; where there is nothing, nothing
abbrev pub asked_of : {A : Type 0} → (A → List (Option Point)) → Option A → List (Option Point)
asked_of ask None = of_three None None None
asked_of ask (Some x) = ask x

-- the rules that the event asks in earnest
abbrev pub asked : Header → Trace → Event → List (Option Point)
asked h past (Ar p i addr snoop dom bar lock) =
    asked_of (asked_by_issue h past) (issued (length past) (Ar p i addr snoop dom bar lock))
asked h past (Aw p i addr snoop dom bar) =
    asked_of (asked_by_issue h past) (issued (length past) (Aw p i addr snoop dom bar))
asked h past (W p strb last word) =
    of_three (asks 11 (is_some_and (next_write past p) (updates_word past p))) None None
asked h past (G p c i) =
    asked_of (asked_by_grant h past) (outstanding h past p c i)
asked h past (Ac p addr snoop) = asked_by_snoop h past p snoop
asked h past (Cr p resp st) = asked_of (asked_by_answer h past p) (answered past p)
asked h past (Cd p last word) = of_three (asks 17 (is_some (sending past p))) None None
asked h past (R p i resp last word) =
    asked_of (asked_by_transfer h past) (transaction_in h past (R p i resp last word))
asked h past (Rk p st) = asked_of (asked_by_rack h past) (transaction_in h past (Rk p st))
asked h past (M p c i line) =
    asked_of (asked_by_memory_write h past) (outstanding h past p c i)
asked h past (B p i resp) = asked_of (asked_by_response past) (outstanding h past p Write i)
asked h past (Wk p st) = asked_of (asked_by_wack h past) (served_in h past (Wk p st))
asked h past (S p addr st) = of_three (asks 29 true) None None
asked h past (L p addr w x word) =
    of_three (asks 30 true) (asks 31 (has_word (copy_of past p addr) w)) None
asked h past (D p addr strobe x line) = of_three (asks 32 true) (asks 33 x) None
asked h past (Op p k res) = of_three (asks 40 true) None None
asked h past _ = of_three None None None
