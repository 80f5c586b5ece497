use Rattle.std.proofs.Common.{rules}
use Rattle.ace_writer.proofs.Fronts.{given_more}
use Rattle.ace_writer.proofs.writer.Writer.give_over.Goals as goal

pub returns-then-self-2-clause-text : goal.returns-then-self-2-clause-text
returns-then-self-2-clause-text g c = λ before text so_far.
    given_more _ before text c.args.self.now _ c.give_all-count.result so_far (search rules) (search rules) (search rules) (search rules) (λ whole. search rules) c.clear.ensures

pub returns-clause-text : goal.returns-clause-text
returns-clause-text g c = λ before text so_far.
    given_more _ before text c.args.self.now _ c.give_all-count.result so_far (search rules) (search rules) (search rules) (search rules) (λ whole. search rules) c.clear.ensures
