-- The steps of the master of a port: it answers snoops, sends write data, acknowledges, and goes on
-- with its operations.
use Rattle.std.specs.Prelude.{ℕ, Bool, true, false, not, ◌&&◌, ◌||◌, ◌==◌, if◌then◌else◌, List, [], ◌∷◌, ◌++◌, length, find, Option, Some, None, is_some, unwrap_or, option_map, flat_map}
use Rattle.std.specs.List.{list_all, list_any}
use Rattle.std.specs.Option.{option_to_list}
use Rattle.ace_codes.specs.declared.state.LineState.{LineState}
use Rattle.ace_codes.specs.declared.state.LineState.TheVariants.{I, UC, UD, SC, SD}
use Rattle.ace_codes.specs.declared.kind.ArKind.TheVariants as read
use Rattle.ace_codes.specs.Reads.{ar_code}
use Rattle.ace_codes.specs.Responses.{transfers_data, is_shared, passes_dirty}
use Rattle.ace_codes.specs.Snoops.{ac_kind_of}
use Rattle.ace_event.specs.declared.event.Channel.{Channel}
use Rattle.ace_event.specs.declared.event.Channel.TheVariants.{Read, Write}
use Rattle.ace_event.specs.declared.event.Event.{Event}
use Rattle.ace_event.specs.declared.event.Event.TheVariants as event
use Rattle.ace_event.specs.declared.event.Outcome.TheVariants.{Ok}
use Rattle.ace_event.specs.declared.header.Header.{Header}
use Rattle.ace_event.specs.declared.line.Line.{Line}
use Rattle.ace_tables.specs.Answers.{snoop_rows}
use Rattle.ace_tables.specs.EndStates.{end_states_of_read, end_states_of_write}
use Rattle.ace_tables.specs.States.{is_among}
use Rattle.ace_model.specs.declared.plans.Op.{Op}
use Rattle.ace_model.specs.declared.snoops.Snoop.{Snoop}
use Rattle.ace_model.specs.declared.transactions.Transaction.{Transaction}
use Rattle.ace_model.specs.Trace.{Trace, is_some_and}
use Rattle.ace_model.specs.Kinds.{is_line_snoop, is_make_unique}
use Rattle.ace_model.specs.Transactions.{is_ace, is_read, read_kind, write_kind, acknowledged, first_resp}
use Rattle.ace_model.specs.Progress.{has_update}
use Rattle.ace_model.specs.Writes.{next_write, next_write_beat}
use Rattle.ace_model.specs.Snoops.{answered, snoops_a_line}
use Rattle.ace_model.specs.Exclusives.{has_failed}
use Rattle.ace_model.specs.States.{state_of, has_store}
use Rattle.ace_model.specs.Copies.{copy_of, word_of}
use Rattle.ace_model.specs.ReadRules.{held_of}
use Rattle.ace_runs.specs.Segments.{is_in_segment}
use Rattle.ace_runs.specs.Retiring.{may_retire, tells_completion}
use Rattle.ace_runs.specs.Follows.{owes_completion}
use Rattle.ace_runs.specs.SameEvents.{same_burst}
use Rattle.ace_runs.specs.Closing.{and_closing, retirement, access_of}
use Rattle.ace_runs.specs.Requests.{moves_of, with_identifier, free_on}

-- ---- step 1: the answer to a snoop
-- -------------------------------------------------------------------

-- the snoop has a row with the port's state and update; a DVM snoop has one
abbrev pub has_row : Header → Trace → ℕ → Snoop → Bool
has_row h past p s =
    is_some_and (ac_kind_of s.snoop) (λ k. not (is_line_snoop k)
    || not (length (snoop_rows k (state_of h past p s.addr) (has_update h past p s.addr)) == 0))

-- the port's oldest unanswered snoop can be answered
abbrev pub may_answer_snoop : Header → Trace → ℕ → Bool
may_answer_snoop h past p = is_some_and (answered past p) (has_row h past p)

-- the four beats of snoop data
abbrev pub data_burst : ℕ → Line → List Event
data_burst p line =
    event.Cd p false (word_of line 0) ∷ event.Cd p false (word_of line 1)
    ∷ event.Cd p false (word_of line 2)
    ∷ event.Cd p true (word_of line 3) ∷ []

-- what comes with the CR to the snoop: after that of a DVM Complete the OP of the Sync, else the
-- data that it announces
abbrev pub after_answer : Trace → ℕ → Snoop → ℕ → List Event
after_answer past p s resp =
    if tells_completion s then retirement past p Ok
    else if snoops_a_line s.snoop && transfers_data resp
    then data_burst p (copy_of past p s.addr) else []

-- the CR to the snoop and what comes with it; that it is a row of the snoop is a matter of the
-- rules
abbrev pub answers_snoop : Header → Trace → ℕ → List Event → Bool
answers_snoop h past p (event.Cr q resp st ∷ rest) =
    (p == q) && is_some_and (answered past p) (λ s. same_burst (after_answer past p s resp) rest)
answers_snoop h past p _ = false

-- ---- step 2: write data
-- ------------------------------------------------------------------------------

-- the port has an AW with data whose burst isn't sent
abbrev pub may_send : Header → Trace → ℕ → Bool
may_send h past p = is_some (next_write past p) && (next_write_beat past p == 0)

abbrev pub is_beat : ℕ → Event → Bool
is_beat p (event.W q strb last word) = p == q
is_beat p _ = false

-- four W; what they carry is a matter of the rules and of what the trace follows
abbrev pub sends : Header → Trace → ℕ → List Event → Bool
sends h past p burst = list_all (is_beat p) burst && (length burst == 4)

-- ---- step 4: acknowledging
-- ---------------------------------------------------------------------------

abbrev pub is_told_shared : Trace → Transaction → Bool
is_told_shared past x = is_some_and (first_resp past x.port x.id) is_shared

abbrev pub is_told_dirty : Trace → Transaction → Bool
is_told_dirty past x = is_some_and (first_resp past x.port x.id) passes_dirty

-- the states in which the transaction may end
abbrev pub end_states : Header → Trace → Transaction → List LineState
end_states h past x =
    unwrap_or (option_map (λ k. end_states_of_read k (held_of h past x)
    (is_told_shared past x) (is_told_dirty past x) (has_failed past x)) (read_kind x))
    (unwrap_or (option_map (λ k. end_states_of_write k (held_of h past x)) (write_kind x)) [])

-- a master ends a transaction in the first of these states that it may
abbrev pub end_order : List LineState
end_order = UD ∷ UC ∷ SD ∷ SC ∷ I ∷ []

abbrev pub end_of : Header → Trace → Transaction → Option LineState
end_of h past x = find (λ st. is_among st (end_states h past x)) end_order

abbrev pub acknowledge : Transaction → LineState → List Event
acknowledge x st = (if is_read x.chan then event.Rk x.port st else event.Wk x.port st) ∷ []

-- the store that a MakeUnique lacks, which its operation makes
abbrev pub store_lacked : Header → Trace → Transaction → Op → List Event
store_lacked h past x op =
    if is_some_and (read_kind x) is_make_unique && not (has_store h past x.port x.id)
    then option_to_list (access_of past x.port op) else []

-- The acknowledge of a transaction that was issued for the port's next operation: with the store of
-- a MakeUnique before it, and after it what ends that operation, if it can end then.
abbrev pub acknowledge_for : Header → Trace → Transaction → Option Op → LineState → List Event
acknowledge_for h past x None st = []
acknowledge_for h past x (Some op) st =
    and_closing h past x.port op (store_lacked h past x op ++ acknowledge x st)

abbrev pub acknowledge_in : Option Op → Header → Trace → Transaction → LineState → List Event
acknowledge_in next h past x st =
    if is_in_segment past x then acknowledge_for h past x next st else acknowledge x st

abbrev pub acknowledge_of : Option Op → Header → Trace → Transaction → List Event
acknowledge_of next h past x =
    unwrap_or (option_map (acknowledge_in next h past x) (end_of h past x)) []

-- the transaction whose acknowledge is due on the channel; ACE-Lite ports give none
abbrev pub due : Header → Trace → ℕ → Channel → Option Transaction
due h past p c = if is_ace h p then acknowledged past p c else None

abbrev pub has_due : Header → Trace → ℕ → Bool
has_due h past p = is_some (due h past p Read) || is_some (due h past p Write)

-- nothing is to be acknowledged, and the next operation may retire
abbrev pub is_finished : Option Op → Header → Trace → ℕ → Bool
is_finished next h past p =
    not (has_due h past p) && is_some_and next (λ op. may_retire h past p op Ok)

abbrev pub may_acknowledge : Option Op → Header → Trace → ℕ → Bool
may_acknowledge next h past p = has_due h past p || is_finished next h past p

abbrev pub acknowledges_on : Option Op → Header → Trace → ℕ → List Event → Channel → Bool
acknowledges_on next h past p burst c =
    is_some_and (due h past p c) (λ x. same_burst (acknowledge_of next h past x) burst)

abbrev pub acknowledges : Option Op → Header → Trace → ℕ → List Event → Bool
acknowledges next h past p burst =
    acknowledges_on next h past p burst Read || acknowledges_on next h past p burst Write
    || (is_finished next h past p && same_burst (retirement past p Ok) burst)

-- ---- step 14: going on
-- -------------------------------------------------------------------------------

-- the AR of a DVM Complete that the port owes
abbrev pub completion_bursts : Header → Trace → ℕ → List (List Event)
completion_bursts h past p =
    if is_ace h p && owes_completion past p
    then with_identifier (free_on h past p Read)
    (λ i. event.Ar p i 0 (ar_code read.DvmComplete) 1 0 false ∷ [])
    else []

-- the bursts by which the port can go on: with a DVM Complete, or with its next operation
abbrev pub moves : ℕ → Option Op → Header → Trace → ℕ → List (List Event)
moves ways next h past p =
    completion_bursts h past p ++ flat_map (moves_of ways h past p) (option_to_list next)

abbrev pub may_go_on : ℕ → Option Op → Header → Trace → ℕ → Bool
may_go_on ways next h past p = not (length (moves ways next h past p) == 0)

abbrev pub goes_on : ℕ → Option Op → Header → Trace → ℕ → List Event → Bool
goes_on ways next h past p burst =
    list_any (λ move. same_burst move burst) (moves ways next h past p)
