use Rattle.ace_since.proofs.Kept.{nothing-kept}
use Rattle.ace_since.proofs.since.Since.new.Goals as goal

pub returns : goal.returns
returns c = λ h. nothing-kept h _ c.new.ensures.empty
