use Rattle.std.proofs.Common.{arith}
use Rattle.std.proofs.lemmas.Grind.{common_steps}
use Rattle.ace_pages.proofs.Steps.{title_end, title_step}
use Rattle.ace_pages.proofs.texts.push_titles.Goals as goal

pub loop-rule-preserved : goal.loop-rule-preserved
loop-rule-preserved c =
    let step = title_step c.loop-rule.rule (omega (arith, c.loop-rule-test.true)) in
    record {
      few = omega (arith, c.loop-rule-test.true);
      titles = grind (arith, common_steps, step);
    }

pub returns : goal.returns
returns c =
    let rest = title_end c.loop-rule.rule (omega (arith, c.loop-rule-test.false)) in
    grind (arith, common_steps, rest)
