use Rattle.std.proofs.Common.{◌≡◌, true, not, ◌||◌, ◌==◌, [], if◌then◌else◌, sym, ap, ◌∙◌}
use Rattle.std.proofs.lemmas.Bool.{or_right}
use Rattle.ace_model.specs.Trace.{is_some_and}
use Rattle.ace_runs.specs.Closing.{closing_of}
use Rattle.ace_model.specs.Plans.{line_named}
use Rattle.ace_model.specs.Transactions.{has_outstanding_on}
use Rattle.ace_runs.specs.Requests.{awaits_update, ends_or_asks, is_waiting}
use Rattle.ace_runs.specs.Segments.{acts_made}
use Rattle.ace_master.proofs.ace_port.AcePort.has_asked.Goals as goal

pub returns : goal.returns
returns c = λ asked plan past s next.
    let h = plan.header in
    let p = c.args.self.now.port in
    let op = c.args.op in
    let made : not (acts_made past p == 0) ≡ true = ap (λ n. not (n == 0)) (sym (c.acts.ensures past p s.kept.segment)) ∙ asked in
    let waits : is_waiting h past p op ≡ true = or_right (is_some_and (line_named op) (has_outstanding_on h past p) || awaits_update h past p) (not (acts_made past p == 0)) made in
    ap (λ b. if b then [] else ends_or_asks plan.ways h past p op (closing_of h past p op)) waits
