use Rattle.std.proofs.Common.{subst}
use Rattle.ace_explanation.specs.Explanations.{IsExplanationWithin}
use Rattle.ace_drawing.proofs.drawing.explanation_of.Goals as goal

pub returns-clause-right : goal.returns-clause-right
returns-clause-right c =
    subst (λ b. IsExplanationWithin c.args.limits b.now c.explanation_within.result) c.new-source.ensures.inner c.explanation_within.ensures.right
