use Rattle.std.proofs.Common.{◌≡◌, true, false, ◌&&◌, [], if◌then◌else◌, sym, ap, subst, ◌∙◌}
use Rattle.std.proofs.lemmas.Bool.{and_from}
use Rattle.ace_codes.specs.declared.kind.ArKind.TheVariants as read
use Rattle.ace_model.specs.Transactions.{is_ace}
use Rattle.ace_runs.specs.Follows.{owes_completion}
use Rattle.ace_runs.specs.MasterSteps.{completion_bursts}
use Rattle.ace_runs.specs.Requests.{read_bursts}
use Rattle.ace_master.specs.Asking.{IsOneOf, only}
use Rattle.ace_master.proofs.AskedBursts.AskingSteps.{completion-steps}
use Rattle.ace_master.proofs.AskedBursts.OneBurst.{only-one}
use Rattle.ace_master.proofs.bursts.completion_burst.Goals as goal

pub returns-then-owes-clause-step : goal.returns-then-owes-clause-step
returns-then-owes-clause-step c = λ plan past p asking s ids owed ace is.
    let h = plan.header in
    let owes : (is_ace h p && owes_completion past p) ≡ true = and_from _ _ ace (sym (c.owes.ensures past p owed) ∙ c.if-owes.true) in
    let bursts : completion_bursts h past p ≡ only c.read_burst.result =
    ap (λ b. if b then read_bursts h past p read.DvmComplete 0 false else []) owes ∙ c.read_burst.ensures h past p s ids in
    completion-steps plan past p _ (subst (λ o. IsOneOf o (completion_bursts h past p)) is (only-one c.read_burst.result _ bursts))
