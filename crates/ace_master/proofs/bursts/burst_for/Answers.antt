use Rattle.std.proofs.Common.{◌≡◌, ◌∙◌, ap, subst}
use Rattle.ace_runs.specs.Closing.{state_named}
use Rattle.ace_runs.specs.Requests.{bursts_of, request_of}
use Rattle.ace_master_state.specs.AceRequests.{asks}
use Rattle.ace_master.specs.Asking.{IsOneOf}
use Rattle.ace_master.proofs.AskedBursts.AskingSteps.{asked-steps, none-asked}
use Rattle.ace_master.proofs.bursts.burst_for.Goals as goal

pub returns-clause-asks : goal.returns-clause-asks
returns-clause-asks c = λ h ways past p s ids lines.
    let asked : asks c.request_of.result ≡ request_of c.args.op (state_named h past p c.args.op) =
    c.request_of.ensures ∙ ap (request_of c.args.op) (c.state_named.ensures h ways past p lines) in
    subst (λ r. IsOneOf c.burst_of.result (bursts_of ways h past p r)) asked (c.burst_of.ensures h ways past p s ids lines)

pub returns-clause-step : goal.returns-clause-step
returns-clause-step c = λ plan past p asking s ids lines m is.
    let h = plan.header in
    let one = returns-clause-asks c h plan.ways past p s ids lines in
    asked-steps plan past p c.args.op m.legal m.next m.goes m.unclosed m.as_asked _ (subst (λ o. IsOneOf o (bursts_of plan.ways h past p (request_of c.args.op (state_named h past p c.args.op)))) is one)

pub returns-clause-none : goal.returns-clause-none
returns-clause-none c = λ plan past p s ids lines m is.
    let h = plan.header in
    let one = returns-clause-asks c h plan.ways past p s ids lines in
    none-asked plan past p c.args.op m.legal m.next m.goes m.unclosed (subst (λ o. IsOneOf o (bursts_of plan.ways h past p (request_of c.args.op (state_named h past p c.args.op)))) is one)
