-- A port with nothing outstanding, whose next operation has made none of its acts, can go on with that operation: step 14 is enabled for it. A port
-- waits for its operation where a transaction of it is outstanding, or where an act of the operation was made (`is_waiting`). Where neither is so, the
-- operation ends, or it asks for what it lacks: all identifiers are free, no line is busy, and where there is no room some line can be given up.
-- Where an act was made, the port has the operation's own transaction behind it: it may retire by step 4, unless it is a Sync, or half a pair.
use Rattle.std.proofs.Common.{◌≡◌, ℕ, ◌≤◌, true, false, not, ◌||◌, ◌==◌, if◌then◌else◌, List, [], ◌∷◌, Option, Some, None, refl, sym, ap, subst, ◌∙◌}
use Rattle.std.specs.List.{flat_map}
use Rattle.std.specs.Option.{option_to_list}
use Rattle.std.proofs.lemmas.Bool.{eq-eqb, or_left}
use Rattle.ace_event.specs.declared.event.Event.{Event}
use Rattle.ace_event.specs.declared.header.Header.{Header}
use Rattle.ace_model.specs.declared.plans.Op.{Op}
use Rattle.ace_model.specs.Plans.{Plan, line_named}
use Rattle.ace_model.specs.Trace.{Trace, is_some_and}
use Rattle.ace_model.specs.Transactions.{has_outstanding_on, is_outstanding, some_issued}
use Rattle.ace_runs.specs.Closing.{and_closing, closing_of, state_named}
use Rattle.ace_runs.specs.MasterSteps.{completion_bursts, may_go_on, moves}
use Rattle.ace_runs.specs.Operations.{next_operation}
use Rattle.ace_runs.specs.Requests.{awaits_update, bursts_of, ends_or_asks, is_waiting, moves_of, request_of}
use Rattle.ace_runs.specs.Segments.{acts_made}
use Rattle.ace_runs.specs.Steps.{is_enabled_by}
use Rattle.ace_runs.proofs.NeverStuck.Messages.OwedCompletions.{none-outstanding}
use Rattle.ace_runs.proofs.NeverStuck.Operations.Asks.{HasFirst, first-flat_map, first-map, first-right, not-empty, request-asked, this-first}
use Rattle.ace_runs.proofs.NeverStuck.Operations.Idle.{IsIdle, awaits-none, none-busy}

module _ (ways : ℕ) (h : Header) (past : Trace) (p : ℕ) (op : Op) (idle : IsIdle h past p) where
  -- nothing keeps the operation waiting but its own act
  pub waits-not : acts_made past p ≡ 0 → is_waiting h past p op ≡ false
  waits-not none =
      let busy : is_some_and (line_named op) (has_outstanding_on h past p) ≡ false = not-busy (line_named op) in
      ap (λ b. b || awaits_update h past p || not (acts_made past p == 0)) busy
      ∙ ap (λ b. b || not (acts_made past p == 0)) (awaits-none h past p idle)
      ∙ ap not (eq-eqb (acts_made past p) 0 none)
    where
      not-busy : (o : Option ℕ) → is_some_and o (has_outstanding_on h past p) ≡ false
      not-busy None = refl
      not-busy (Some l) = none-busy h past p idle l

  ends-or-asks : 1 ≤ ways → (end : List Event) → HasFirst (ends_or_asks ways h past p op end)
  ends-or-asks some [] =
      let asked = request_of op (state_named h past p op) in
      first-map (and_closing h past p op) (bursts_of ways h past p asked) (request-asked ways h past p asked idle some)
  ends-or-asks some (e ∷ end) = this-first (e ∷ end) []

  -- so it can go on
  pub has-move : 1 ≤ ways → acts_made past p ≡ 0 → HasFirst (moves_of ways h past p op)
  has-move some none =
      subst HasFirst (sym (ap (λ b. if b then [] else ends_or_asks ways h past p op (closing_of h past p op)) (waits-not none)))
      (ends-or-asks some (closing_of h past p op))

pub may-go-on : (plan : Plan) (past : Trace) (p : ℕ) (op : Op) → 1 ≤ plan.ways → IsIdle plan.header past p
    → next_operation plan past p ≡ Some op → acts_made past p ≡ 0 → may_go_on plan.ways (next_operation plan past p) plan.header past p ≡ true
may-go-on plan past p op some idle next none =
    let h = plan.header in
    let move = has-move plan.ways h past p op idle some none in
    let moving : HasFirst (moves plan.ways (Some op) h past p) =
    first-right (completion_bursts h past p) (flat_map (moves_of plan.ways h past p) (option_to_list (Some op)))
    (first-flat_map (moves_of plan.ways h past p) (op ∷ []) (record { first = op; rest = []; is = refl }) move) in
    ap (λ o. may_go_on plan.ways o h past p) next ∙ not-empty (moves plan.ways (Some op) h past p) moving

-- Where nothing of the port is outstanding, its next operation goes on if it has made no act.
pub idle-goes-on : (plan : Plan) (past : Trace) (p : ℕ) (op : Op) → 1 ≤ plan.ways → IsIdle plan.header past p
    → next_operation plan past p ≡ Some op → acts_made past p ≡ 0 → is_enabled_by (14 ∷ []) plan past p ≡ true
idle-goes-on plan past p op some idle next none = or_left (may_go_on plan.ways (next_operation plan past p) plan.header past p) _ (may-go-on plan past p op some idle next none)

-- Where nothing is outstanding, an operation that has made no act goes on.
pub operation-goes-on : (plan : Plan) (past : Trace) (p : ℕ) (op : Op) → 1 ≤ plan.ways → some_issued past (is_outstanding plan.header past) ≡ false
    → next_operation plan past p ≡ Some op → acts_made past p ≡ 0 → is_enabled_by (14 ∷ []) plan past p ≡ true
operation-goes-on plan past p op some nothing = idle-goes-on plan past p op some (λ c i. none-outstanding plan.header past p c i nothing)
