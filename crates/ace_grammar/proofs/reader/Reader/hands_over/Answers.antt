use Rattle.std.proofs.Common.{rules}
use Rattle.ace_grammar.proofs.Fronts.Handed.{handed}
use Rattle.ace_grammar.proofs.reader.Reader.hands_over.Goals as goal

pub returns-clause-taken : goal.returns-clause-taken
returns-clause-taken g c is =
    let taken = c.in-Some.ensures.taken in handed _ _ _ _ _ _ _ _ (search rules) c.front.ensures taken.1 c.pass.ensures.passed taken.2
