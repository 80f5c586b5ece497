use Rattle.ace_script.proofs.CopiedPlans.{pushed_script}
use Rattle.ace_script.proofs.plan.push_right.Goals as goal

pub returns-clause-script : goal.returns-clause-script
returns-clause-script c =
    pushed_script c.args.view.now c.push.new.self c.args.o _ c.requires.script c.push.ensures.few c.requires.right c.every_operation_fits.ensures c.push.ensures.value
