use Rattle.std.proofs.lemmas.Bool.{iff_false}
use Rattle.ace_script.proofs.CopiedPlans.{other_settings}
use Rattle.ace_script.proofs.SamePlans.{same_by_text}
use Rattle.ace_script.proofs.plan.are_same.Goals as goal

pub returns-then-not-are_same_settings : goal.returns-then-not-are_same_settings
returns-then-not-are_same_settings c = other_settings c.args.one.now c.args.other.now (iff_false c.are_same_settings.ensures c.if-not-are_same_settings.true)

pub returns : goal.returns
returns c =
    same_by_text c.args.one.now c.args.other.now c.have_one_text.result c.requires.one c.requires.other (c.are_same_settings.ensures.0 c.if-not-are_same_settings.false)
    (rw (c.operations.ensures, c.operations-2.ensures) at c.have_one_text.ensures.text) (rw (c.operations.ensures, c.operations-2.ensures) at c.have_one_text.ensures.itself)
