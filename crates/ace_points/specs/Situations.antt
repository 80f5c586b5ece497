-- The situations that an event shows: races and the like that designs get wrong. At most five.
use Rattle.std.specs.Prelude.{ℕ, ◌+◌, Bool, true, false, not, ◌&&◌, ◌||◌, ◌==◌, nat_lt, if◌then◌else◌, List, [], ◌∷◌, length, Option, Some, None, is_some}
use Rattle.std.specs.List.{list_any}
use Rattle.ace_codes.specs.Responses.{transfers_data}
use Rattle.ace_codes.specs.Snoops.{ac_kind_of}
use Rattle.ace_codes.specs.declared.kind.ArKind.{ArKind}
use Rattle.ace_codes.specs.declared.kind.ArKind.TheVariants.{CleanUnique, MakeUnique}
use Rattle.ace_codes.specs.declared.kind.AwKind.{AwKind}
use Rattle.ace_codes.specs.declared.kind.AwKind.TheVariants as write
use Rattle.ace_codes.specs.declared.kind.SnoopKind.{SnoopKind}
use Rattle.ace_codes.specs.declared.kind.SnoopKind.TheVariants.{MakeInvalid}
use Rattle.ace_codes.specs.declared.state.LineState.{LineState}
use Rattle.ace_codes.specs.declared.state.LineState.TheVariants.{SC, SD}
use Rattle.ace_event.specs.declared.event.Channel.TheVariants.{Read, Write}
use Rattle.ace_event.specs.declared.event.Event.{Event}
use Rattle.ace_event.specs.declared.event.Event.TheVariants.{Ar, Aw, G, R, Rk, W, M, Ac, Cr, L, D, Op, Mem}
use Rattle.ace_event.specs.declared.event.Outcome.{Outcome}
use Rattle.ace_event.specs.declared.event.Outcome.TheVariants.{Fail, Skip}
use Rattle.ace_event.specs.declared.header.Header.{Header}
use Rattle.ace_model.specs.Barriers.{Pair, is_barrier_half, place_of}
use Rattle.ace_model.specs.Copies.{same_line, zero_line}
use Rattle.ace_model.specs.Exclusives.{store_passes}
use Rattle.ace_model.specs.Grants.{granted, has_passed_data, owes_answer, owes_data, ports_below, was_snooped}
use Rattle.ace_model.specs.Kinds.{has_write_data, is_complete_snoop}
use Rattle.ace_model.specs.Messages.{is_message_part, is_other_ace}
use Rattle.ace_model.specs.SnoopRules.{full_beat}
use Rattle.ace_model.specs.Snoops.{answered, is_snoop_on, snoops_a_line}
use Rattle.ace_model.specs.States.{state_of}
use Rattle.ace_model.specs.Trace.{Trace, is_some_and}
use Rattle.ace_model.specs.Transactions.{is_exclusive_store, is_line, is_read, issued, outstanding, read_kind, takes_grant, write_kind}
use Rattle.ace_model.specs.Writes.{next_write}
use Rattle.ace_model.specs.declared.snoops.Snoop.{Snoop}
use Rattle.ace_model.specs.declared.transactions.Transaction.{Transaction}
use Rattle.ace_portck.specs.Targets.{first_incomplete, first_unordered, own_on, served_in, transaction_in}
use Rattle.ace_portck.specs.declared.target.Progress.{Progress}
use Rattle.ace_sysck.specs.Inboxes.{next_message}
use Rattle.ace_tables.specs.States.{is_dirty, is_invalid, same_state}
use Rattle.ace_points.specs.Asked.{holds, outstanding_count, some_open_pair, under_grant, wants_line}
use Rattle.ace_points.specs.declared.point.Point.{Point}
use Rattle.ace_points.specs.declared.point.Point.TheVariants.{Met}
use Rattle.ace_points.specs.declared.situation.Situation.{Situation}
use Rattle.ace_points.specs.declared.situation.Situation.TheVariants as situation

-- the situation, where it is so
abbrev pub meets : Situation → Bool → Option Point
meets situation so = if so then Some (Met situation) else None

abbrev pub of_five : Option Point → Option Point → Option Point → Option Point → Option Point
    → List (Option Point)
of_five a b c d e = a ∷ b ∷ c ∷ d ∷ e ∷ []

abbrev pub of_two : Option Point → Option Point → List (Option Point)
of_two a b = of_five a b None None None

abbrev pub is_write_unique : AwKind → Bool
is_write_unique write.WriteUnique = true
is_write_unique kind = false

abbrev pub is_write_evict : AwKind → Bool
is_write_evict write.WriteEvict = true
is_write_evict kind = false

abbrev pub is_make_invalid : SnoopKind → Bool
is_make_invalid MakeInvalid = true
is_make_invalid kind = false

-- two of the ports pass the test
abbrev pub some_two : (ℕ → Bool) → List ℕ → Bool
some_two test [] = false
some_two test (q ∷ qs) = (test q && list_any test qs) || some_two test qs

-- another transaction is granted on the line of one that takes a grant
abbrev pub waits_for_grant : Header → Trace → Transaction → Bool
waits_for_grant h past x = takes_grant x && is_some (granted h past x.addr)

-- its data stand behind those of another write of the port
abbrev pub sends_behind : Trace → Transaction → Bool
sends_behind past x =
    is_some_and (write_kind x) has_write_data && is_some (next_write past x.port)

-- a half of a barrier that has to wait for what came before
abbrev pub barrier_waits : Trace → Transaction → Bool
barrier_waits past x =
    is_barrier_half x
    && is_some (if x.bar == 3 then first_incomplete past x.port else first_unordered past x.port)

-- a part of a DVM message, while another message waits to be forwarded to another ACE port
abbrev pub awaits_message : Header → Trace → ℕ → ℕ → Bool
awaits_message h past p q = is_other_ace h p q && is_some (next_message past q)

abbrev pub message_waits : Header → Trace → Transaction → Bool
message_waits h past x =
    is_message_part x && list_any (awaits_message h past x.port) (ports_below h.ports)

-- fifteen transactions of the port are outstanding, and this one comes
abbrev pub makes_sixteen : Header → Trace → ℕ → Bool
makes_sixteen h past p =
    nat_lt 14 (outstanding_count h past p Read + outstanding_count h past p Write)

abbrev pub met_by_issue : Header → Trace → Transaction → List (Option Point)
met_by_issue h past x =
    of_five (meets situation.WaitsForGrant (waits_for_grant h past x))
    (meets situation.TwoWritesSend (sends_behind past x))
    (meets situation.BarrierWaits (barrier_waits past x))
    (meets situation.MessageWaits (message_waits h past x))
    (meets situation.SixteenOutstanding (makes_sixteen h past x.port))

-- another port has an exclusive store of the line outstanding
abbrev pub has_store_of : Header → Trace → ℕ → ℕ → Bool
has_store_of h past q l =
    is_some_and (own_on h past q (Some l)) (λ y. is_exclusive_store y.transaction)

abbrev pub has_rival : Header → Trace → Transaction → ℕ → Bool
has_rival h past x q = not (q == x.port) && has_store_of h past q x.addr

abbrev pub passes_rival : Header → Trace → Transaction → Bool
passes_rival h past x =
    is_exclusive_store x && store_passes past x
    && list_any (has_rival h past x) (ports_below h.ports)

-- a barrier before the transaction, which ignores it, isn't complete
abbrev pub is_ignored : Transaction → Pair → Bool
is_ignored x b = (x.bar == 2) && nat_lt (place_of b) x.place

abbrev pub met_by_grant : Header → Trace → Transaction → List (Option Point)
met_by_grant h past x =
    of_five (meets situation.ThreeWantLine (some_two (wants_line h past x) (ports_below h.ports)))
    (meets situation.StorePassesRival (passes_rival h past x))
    (meets situation.BarrierIgnored (some_open_pair past x.port (is_ignored x)))
    None
    None

-- what the answer to a snoop meets: the memory update of the line that is outstanding
abbrev pub meets_write : Option AwKind → Option Point
meets_write (Some write.WriteBack) = Some (Met situation.SnoopMeetsWriteBack)
meets_write (Some write.WriteClean) = Some (Met situation.SnoopMeetsWriteClean)
meets_write (Some write.WriteEvict) = Some (Met situation.SnoopMeetsWriteEvict)
meets_write kind = None

-- or the read of the line that is outstanding, and loses it
abbrev pub takes_from : Option ArKind → Option Point
takes_from (Some CleanUnique) = Some (Met situation.CleanUniqueLosesLine)
takes_from (Some MakeUnique) = Some (Met situation.MakeUniqueLosesLine)
takes_from kind = None

abbrev pub met_write : Option Progress → Option Point
met_write None = None
met_write (Some y) = meets_write (write_kind y.transaction)

abbrev pub loses_line : Bool → Option Progress → Option Point
loses_line lost None = None
loses_line lost (Some y) = if lost then takes_from (read_kind y.transaction) else None

-- another port was snooped of the line before, and hasn't answered
abbrev pub overtakes : Snoop → Snoop → Bool
overtakes s o = is_snoop_on o s.addr && nat_lt o.place s.place

abbrev pub is_overtaken : Trace → ℕ → Snoop → ℕ → Bool
is_overtaken past p s q = not (q == p) && is_some_and (answered past q) (overtakes s)

-- a port that holds the line dirty drops it
abbrev pub drops_dirt : Header → Trace → ℕ → Snoop → Bool
drops_dirt h past p s =
    is_some_and (ac_kind_of s.snoop) is_make_invalid && is_dirty (state_of h past p s.addr)

-- another port sends data under the grant of the line
abbrev pub sends_too : Trace → ℕ → ℕ → ℕ → Bool
sends_too past p l q = not (q == p) && owes_data past q l

abbrev pub two_send : Header → Trace → ℕ → ℕ → ℕ → Bool
two_send h past p resp l =
    transfers_data resp
    && is_some_and (granted h past l) (λ _. list_any (sends_too past p l) (ports_below h.ports))

abbrev pub met_by_line_answer : Header → Trace → ℕ → ℕ → LineState → Snoop → List (Option Point)
met_by_line_answer h past p resp st s =
    of_five (met_write (own_on h past p (Some s.addr)))
    (loses_line (holds h past p s.addr && is_invalid st) (own_on h past p (Some s.addr)))
    (meets situation.AnswersOutOfOrder (list_any (is_overtaken past p s) (ports_below h.ports)))
    (meets situation.DirtyLineDropped (drops_dirt h past p s))
    (meets situation.TwoPortsSend (two_send h past p resp s.addr))

abbrev pub met_by_answer : Header → Trace → ℕ → ℕ → LineState → Snoop → List (Option Point)
met_by_answer h past p resp st s =
    if snoops_a_line s.snoop then met_by_line_answer h past p resp st s else of_two None None

-- a read that has passed data gets its first transfer
abbrev pub gets_passed : Header → Trace → Progress → Bool
gets_passed h past x =
    (x.transfers == 0)
    && is_some_and (under_grant h past x.transaction) (has_passed_data h past)

-- an M
abbrev pub merges_passed : Header → Trace → Transaction → Bool
merges_passed h past x =
    is_some_and (write_kind x) is_write_unique
    && is_some_and (granted h past x.addr) (has_passed_data h past)

abbrev pub is_beside_grant : Header → Trace → Transaction → Bool
is_beside_grant h past x =
    is_some_and (write_kind x) is_write_evict && is_some (granted h past x.addr)

abbrev pub met_by_memory_write : Header → Trace → Transaction → List (Option Point)
met_by_memory_write h past x =
    of_five (meets situation.PassedLineWritten (is_read x.chan))
    (meets situation.WriteUniqueMerged (merges_passed h past x))
    (meets situation.WriteEvictBesideGrant (is_beside_grant h past x))
    None
    None

-- the read of another port is in the middle of its transfers of the line
abbrev pub is_between : Progress → Bool
is_between y = is_read y.transaction.chan && not (y.transfers == 0) && not y.complete

abbrev pub is_reading : Header → Trace → ℕ → ℕ → ℕ → Bool
is_reading h past p l q =
    not (q == p) && is_some_and (own_on h past q (Some l)) is_between

-- another port holds the line
abbrev pub holds_too : Header → Trace → ℕ → ℕ → ℕ → Bool
holds_too h past p l q = not (q == p) && holds h past q l

abbrev pub owns_dirty : Header → Trace → ℕ → ℕ → ℕ → Bool
owns_dirty h past p l q = not (q == p) && same_state (state_of h past q l) SD

abbrev pub shares_dirt : Header → Trace → Transaction → LineState → Bool
shares_dirt h past x st =
    is_line x && same_state st SC
    && list_any (owns_dirty h past x.port x.addr) (ports_below h.ports)

abbrev pub makes_three : Header → Trace → Transaction → LineState → Bool
makes_three h past x st =
    is_line x && not (is_invalid st)
    && some_two (holds_too h past x.port x.addr) (ports_below h.ports)

abbrev pub met_by_rack : Header → Trace → LineState → Transaction → List (Option Point)
met_by_rack h past st x =
    of_two (meets situation.DirtyOwnerAndSharer (shares_dirt h past x st))
    (meets situation.ThreeHolders (makes_three h past x st))

-- an AC: the port hasn't answered an earlier one; a Sync of which two ports were told is completed
abbrev pub ends_wide_sync : Header → ℕ → ℕ → Bool
ends_wide_sync h p snoop =
    is_some_and (ac_kind_of snoop) is_complete_snoop
    && some_two (is_other_ace h p) (ports_below h.ports)

-- a word of a WriteUnique leaves bytes out
abbrev pub leaves_bytes : ℕ → Transaction → Bool
leaves_bytes strobe x =
    is_some_and (write_kind x) is_write_unique && not (strobe == full_beat)

-- a load of a line whose snoop under its grant the port has answered
abbrev pub loads_behind : Header → Trace → ℕ → ℕ → Bool
loads_behind h past p l =
    is_some_and (granted h past l) (λ _. was_snooped past p l && not (owes_answer past p l))

abbrev pub met_by_operation : Outcome → Option Point
met_by_operation Fail = Some (Met situation.OperationFails)
met_by_operation Skip = Some (Met situation.OperationSkipped)
met_by_operation outcome = None

-- what there is meets so; where there is nothing, nothing
abbrev pub met_of : {A : Type 0} → (A → List (Option Point)) → Option A → List (Option Point)
met_of meet None = of_two None None
met_of meet (Some x) = meet x

-- the situations that the event shows
abbrev pub met : Header → Trace → Event → List (Option Point)
met h past (Ar p i addr snoop dom bar lock) =
    met_of (met_by_issue h past) (issued (length past) (Ar p i addr snoop dom bar lock))
met h past (Aw p i addr snoop dom bar) =
    met_of (met_by_issue h past) (issued (length past) (Aw p i addr snoop dom bar))
met h past (G p c i) = met_of (met_by_grant h past) (outstanding h past p c i)
met h past (Ac p addr snoop) =
    of_two (meets situation.SnoopWaits (is_some (answered past p)))
    (meets situation.SyncOfThree (ends_wide_sync h p snoop))
met h past (Cr p resp st) = met_of (met_by_answer h past p resp st) (answered past p)
met h past (R p i resp last word) =
    of_two (meets situation.DirtyLinePassed
    (is_some_and (transaction_in h past (R p i resp last word)) (gets_passed h past)))
    None
met h past (Rk p st) = met_of (met_by_rack h past st) (served_in h past (Rk p st))
met h past (W p strb last word) =
    of_two (meets situation.BytesLeftOut (is_some_and (next_write past p) (leaves_bytes strb)))
    None
met h past (M p c i line) = met_of (met_by_memory_write h past) (outstanding h past p c i)
met h past (L p addr w x word) =
    of_two (meets situation.LoadAfterSnoop (loads_behind h past p addr)) None
met h past (D p addr strobe x line) =
    of_two (meets situation.ReadMeetsStore
    (list_any (is_reading h past p addr) (ports_below h.ports)))
    None
met h past (Op p k outcome) = of_two (met_by_operation outcome) None
met h past (Mem addr line) =
    of_two (meets situation.MemoryOpens (not (same_line line zero_line))) None
met h past _ = of_two None None
