-- The answer of a port to its oldest unanswered snoop.
use Rattle.std.specs.Prelude.{ℕ, ◌≡◌, ◌*◌, Bool, true, false, not, ◌&&◌, ◌||◌, ◌==◌, if◌then◌else◌, List, [], length, Contains, Option, option_map, option_and_then}
use Rattle.ace_codes.specs.declared.kind.SnoopKind.{SnoopKind}
use Rattle.ace_codes.specs.declared.state.LineState.{LineState}
use Rattle.ace_codes.specs.Responses.{transfers_data}
use Rattle.ace_codes.specs.Snoops.{ac_kind_of}
use Rattle.ace_event.specs.declared.event.Event.{Event}
use Rattle.ace_event.specs.declared.event.Event.TheVariants.{Cr, Cd}
use Rattle.ace_event.specs.declared.event.Outcome.TheVariants.{Ok}
use Rattle.ace_event.specs.declared.header.Header.{Header}
use Rattle.ace_tables.specs.declared.rows.Row.{Row}
use Rattle.ace_tables.specs.Answers.{is_snoop_row, snoop_rows}
use Rattle.ace_model.specs.declared.plans.PolicyWord.{PolicyWord}
use Rattle.ace_model.specs.declared.snoops.Snoop.{Snoop}
use Rattle.ace_model.specs.Copies.{copy_of}
use Rattle.ace_model.specs.Kinds.{is_complete_snoop, is_line_snoop}
use Rattle.ace_model.specs.Plans.{Plan}
use Rattle.ace_model.specs.Progress.{has_update}
use Rattle.ace_model.specs.Replies.{sent}
use Rattle.ace_model.specs.Snoops.{answered, data_beats}
use Rattle.ace_model.specs.States.{state_of}
use Rattle.ace_model.specs.Trace.{Trace}
use Rattle.ace_runs.specs.Bursts.{are_kept, onto}
use Rattle.ace_runs.specs.Closing.{retirement}
use Rattle.ace_runs.specs.Follows.{is_picked}
use Rattle.ace_runs.specs.MasterSteps.{answers_snoop, data_burst, may_answer_snoop}
use Rattle.ace_portck.specs.declared.one_port.OnePort.{OnePort}
use Rattle.ace_portck.specs.OnePort.{port_of}
use Rattle.ace_master_state.specs.declared.cached.Cached.{Cached}
use Rattle.ace_master_state.specs.Cached.{CachedStands}
use Rattle.ace_master.specs.declared.answering.Asked.{Asked}
use Rattle.ace_master.specs.KeptPort.{KeepsPort}

-- ---- what is kept
-- ------------------------------------------------------------------------------------

-- the port has sent the data of all its answers that announce some
abbrev pub AreDataSent : Trace → ℕ → Type 0
AreDataSent past p = data_beats past p ≡ 4 * length (sent past p)

-- the event is an answer of the port, or data of one
abbrev pub is_answer_of : ℕ → Event → Bool
is_answer_of p (Cr q resp st) = p == q
is_answer_of p (Cd q last word) = p == q
is_answer_of p _ = false

-- What is kept of the port and of its lines stands, and the port has sent the data of its answers.
pub record Stands (plan : Plan) (past : Trace) (port : OnePort) (cached : Cached) : Type 0 where
  pub kept : KeepsPort port plan past
  pub lines : CachedStands plan.header plan.ways past (port_of port) cached
  pub data_sent : AreDataSent past (port_of port)

-- the policy picks no row but those that the word of a plan allows
abbrev pub IsByWord : PolicyWord → (SnoopKind → LineState → Bool → List Row) → Type 0
IsByWord word rows =
    (k : SnoopKind) (st : LineState) (u : Bool) (r : Row) → Contains (rows k st u) r
    → is_picked word k st u r.resp r.next ≡ true

-- ---- the answer
-- --------------------------------------------------------------------------------------

abbrev pub asked_by : Header → Trace → ℕ → Snoop → SnoopKind → Asked
asked_by h past p s k =
    record {
      kind = k;
      addr = s.addr;
      held = state_of h past p s.addr;
      update = has_update h past p s.addr;
    }

-- what the answer to the port's oldest unanswered snoop goes by
abbrev pub asked_of : Header → Trace → ℕ → Option Asked
asked_of h past p =
    option_and_then (λ s. option_map (asked_by h past p s) (ac_kind_of s.snoop)) (answered past p)

-- the snoop has a row; a DVM snoop has one
abbrev pub can_answer : Asked → Bool
can_answer a = not (is_line_snoop a.kind) || not (length (snoop_rows a.kind a.held a.update) == 0)

-- It is a row for the snoop, of those that the policy picks where it is a line snoop.
pub record IsRowFor (rows : SnoopKind → LineState → Bool → List Row)
    (a : Asked) (r : Row) : Type 0 where
  pub can : can_answer a ≡ true
  pub row : is_snoop_row a.kind a.held a.update r.resp r.next ≡ true
  pub picked : is_line_snoop a.kind ≡ true → Contains (rows a.kind a.held a.update) r

-- what comes with the CR
abbrev pub comes_with : Trace → ℕ → Asked → ℕ → List Event
comes_with past p a resp =
    if is_complete_snoop a.kind then retirement past p Ok
    else if is_line_snoop a.kind && transfers_data resp
    then data_burst p (copy_of past p a.addr) else []

-- The burst is an answer that a step of the port gives, and breaks no rule; after it the port has
-- sent the data of its answers.
pub record IsAnswer (plan : Plan) (past : Trace) (p : ℕ) (burst : List Event) : Type 0 where
  pub may : may_answer_snoop plan.header past p ≡ true
  pub step : answers_snoop plan.header past p burst ≡ true
  pub kept : are_kept plan.header past burst ≡ true
  pub data_sent : AreDataSent (onto burst past) p
