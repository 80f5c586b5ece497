-- What an event after a trace shows: at most five rows of tables, the rules that it asks, and
-- situations.
use Rattle.std.specs.Prelude.{ℕ, Bool, ◌&&◌, if◌then◌else◌, List, [], ◌∷◌, ◌++◌, length, Option, Some, None, is_some, option_map, option_and_then}
use Rattle.ace_codes.specs.Responses.{is_shared, passes_dirty}
use Rattle.ace_codes.specs.Snoops.{ac_kind_of}
use Rattle.ace_codes.specs.declared.kind.ArKind.{ArKind}
use Rattle.ace_codes.specs.declared.kind.AwKind.{AwKind}
use Rattle.ace_codes.specs.declared.kind.SnoopKind.{SnoopKind}
use Rattle.ace_codes.specs.declared.state.LineState.{LineState}
use Rattle.ace_codes.specs.declared.state.LineState.TheVariants.{I}
use Rattle.ace_event.specs.declared.event.Event.{Event}
use Rattle.ace_event.specs.declared.event.Event.TheVariants as event
use Rattle.ace_event.specs.declared.header.Header.{Header}
use Rattle.ace_model.specs.Exclusives.{has_failed, store_passes}
use Rattle.ace_model.specs.Kinds.{is_line_read, is_line_write, is_line_snoop, is_read_barrier}
use Rattle.ace_model.specs.Messages.{first_waiting, is_message_part, is_sync_word}
use Rattle.ace_model.specs.Progress.{has_update}
use Rattle.ace_model.specs.Snoops.{answered}
use Rattle.ace_model.specs.States.{state_of}
use Rattle.ace_model.specs.Trace.{Trace, newer}
use Rattle.ace_model.specs.Transactions.{is_ace, is_exclusive_store, issued, outstanding, read_kind, write_kind}
use Rattle.ace_model.specs.declared.snoops.Snoop.{Snoop}
use Rattle.ace_model.specs.declared.transactions.Transaction.{Transaction}
use Rattle.ace_portck.specs.Targets.{served_in, transaction_in}
use Rattle.ace_portck.specs.declared.target.Progress.{Progress}
use Rattle.ace_points.specs.Asked.{asked}
use Rattle.ace_points.specs.Situations.{met}
use Rattle.ace_points.specs.declared.point.Point.{Point}
use Rattle.ace_points.specs.declared.point.Point.TheVariants.{Read, Write, Exclusive, ExclusiveStore, Barrier, SecondPart, Sync, Bar, Domain, ReadStart, WriteStart, ReadEnd, WriteEnd, Answer, AnswerWithUpdate, Silent}
use Rattle.ace_points.specs.declared.showing.PointsShown.{PointsShown}

-- the kind that is issued, by an ACE port or another
abbrev pub kind_shown : Bool → Option ArKind → Option AwKind → Option Point
kind_shown ace (Some kind) write = Some (Read ace kind)
kind_shown ace None (Some kind) = Some (Write ace kind)
kind_shown ace None None = None

-- an exclusive read
abbrev pub exclusive_shown : Transaction → Option Point
exclusive_shown x = if x.lock then option_map (λ kind. Exclusive kind) (read_kind x) else None

-- the read half of a barrier, with which the barrier is counted
abbrev pub barrier_shown : Bool → Transaction → Option ArKind → Option Point
barrier_shown ace x None = None
barrier_shown ace x (Some kind) = if is_read_barrier kind then Some (Barrier ace x.bar) else None

-- a second part of a DVM message, where a first one waits for it; a Sync
abbrev pub part_shown : Bool → Transaction → Option Point
part_shown waits x =
    if waits then Some SecondPart else if is_sync_word x.addr then Some Sync else None

abbrev pub message_shown : Trace → Transaction → Option Point
message_shown past x =
    if is_message_part x then part_shown (is_some (first_waiting past x.port)) x else None

-- what is special of the transaction that is issued
abbrev pub special_shown : Header → Trace → Transaction → Option Point
special_shown h past x =
    newer (exclusive_shown x) (newer (barrier_shown (is_ace h x.port) x (read_kind x))
    (message_shown past x))

-- the state from which a line transaction starts
abbrev pub start_shown : LineState → Option ArKind → Option AwKind → Option Point
start_shown held (Some kind) write = if is_line_read kind then Some (ReadStart kind held) else None
start_shown held None (Some kind) = if is_line_write kind then Some (WriteStart kind held) else None
start_shown held None None = None

-- the transaction is issued
abbrev pub issue_shown : Header → Trace → Transaction → List (Option Point)
issue_shown h past x =
    kind_shown (is_ace h x.port) (read_kind x) (write_kind x)
    ∷ special_shown h past x
    ∷ Some (Bar x.bar)
    ∷ Some (Domain x.dom)
    ∷ start_shown (state_of h past x.port x.addr) (read_kind x) (write_kind x)
    ∷ []

-- at most two points
abbrev pub both_shown : Option Point → Option Point → List (Option Point)
both_shown first second = first ∷ second ∷ None ∷ None ∷ None ∷ []

-- a line read ends in the state
abbrev pub read_end_of : Header → Trace → LineState → Progress → ArKind → Option Point
read_end_of h past st x kind =
    if is_line_read kind
    then Some (ReadEnd kind (has_failed past x.transaction)
    (state_of h past x.transaction.port x.transaction.addr) (is_shared x.response)
    (passes_dirty x.response) st)
    else None

abbrev pub read_end_shown : Header → Trace → LineState → Progress → Option Point
read_end_shown h past st x = option_and_then (read_end_of h past st x) (read_kind x.transaction)

-- a line write ends in the state
abbrev pub write_end_of : Header → Trace → LineState → Transaction → AwKind → Option Point
write_end_of h past st x kind =
    if is_line_write kind then Some (WriteEnd kind (state_of h past x.port x.addr) st) else None

abbrev pub write_end_shown : Header → Trace → LineState → Transaction → Option Point
write_end_shown h past st x = option_and_then (write_end_of h past st x) (write_kind x)

-- an exclusive store has its grant
abbrev pub grant_shown : Trace → Transaction → Option Point
grant_shown past x =
    if is_exclusive_store x then Some (ExclusiveStore (store_passes past x)) else None

-- the state in which the port holds the line of a snoop of this kind: a DVM snoop has no line
abbrev pub held_at : Header → Trace → ℕ → Snoop → SnoopKind → LineState
held_at h past p s kind = if is_line_snoop kind then state_of h past p s.addr else I

-- the port answers a snoop of this kind
abbrev pub answer_of : Header → Trace → ℕ → ℕ → LineState → Snoop → SnoopKind → List (Option Point)
answer_of h past p resp st s kind =
    both_shown (Some (Answer kind (held_at h past p s kind) resp st))
    (if is_line_snoop kind && has_update h past p s.addr
    then Some (AnswerWithUpdate kind (held_at h past p s kind) resp st) else None)

abbrev pub answer_by_kind : Header → Trace → ℕ → ℕ → LineState
    → Snoop → Option SnoopKind → List (Option Point)
answer_by_kind h past p resp st s None = both_shown None None
answer_by_kind h past p resp st s (Some kind) = answer_of h past p resp st s kind

abbrev pub answer_shown : Header → Trace → ℕ → ℕ → LineState → Option Snoop → List (Option Point)
answer_shown h past p resp st None = both_shown None None
answer_shown h past p resp st (Some s) = answer_by_kind h past p resp st s (ac_kind_of s.snoop)

abbrev pub issued_shown : Header → Trace → Option Transaction → List (Option Point)
issued_shown h past None = both_shown None None
issued_shown h past (Some x) = issue_shown h past x

-- the rows of the tables that the event shows
abbrev pub rows_shown : Header → Trace → Event → List (Option Point)
rows_shown h past (event.Ar p i addr snoop dom bar lock) =
    issued_shown h past (issued (length past) (event.Ar p i addr snoop dom bar lock))
rows_shown h past (event.Aw p i addr snoop dom bar) =
    issued_shown h past (issued (length past) (event.Aw p i addr snoop dom bar))
rows_shown h past (event.G p c i) =
    both_shown (option_and_then (grant_shown past) (outstanding h past p c i)) None
rows_shown h past (event.Rk p st) =
    both_shown (option_and_then (read_end_shown h past st) (transaction_in h past (event.Rk p st)))
    None
rows_shown h past (event.Wk p st) =
    both_shown (option_and_then (write_end_shown h past st) (served_in h past (event.Wk p st))) None
rows_shown h past (event.Cr p resp st) = answer_shown h past p resp st (answered past p)
rows_shown h past (event.S p addr st) = both_shown (Some (Silent (state_of h past p addr) st)) None
rows_shown h past _ = both_shown None None

-- what there is of the lists
abbrev pub points_of : PointsShown → List (Option Point)
points_of s = s.rows ++ (s.rules ++ s.situations)

-- what the event shows: rows of the tables, rules that it asks in earnest, and situations
abbrev pub shown : Header → Trace → Event → List (Option Point)
shown h past e = rows_shown h past e ++ (asked h past e ++ met h past e)
