use Rattle.std.proofs.Common.{rules}
use Rattle.ace_bin.proofs.Given.{given_more}
use Rattle.ace_bin.proofs.writer.BinWriter.give_over.Goals as goal

pub returns-then-self-2-clause-bytes : goal.returns-then-self-2-clause-bytes
returns-then-self-2-clause-bytes g c = λ before bytes so_far.
    given_more _ before bytes c.args.self.now _ c.give_all-count.result so_far (search rules) (search rules) (search rules) (search rules) (λ whole. search rules) c.clear.ensures

pub returns-clause-bytes : goal.returns-clause-bytes
returns-clause-bytes g c = λ before bytes so_far.
    given_more _ before bytes c.args.self.now _ c.give_all-count.result so_far (search rules) (search rules) (search rules) (search rules) (λ whole. search rules) c.clear.ensures
