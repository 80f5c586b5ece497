use Rattle.std.proofs.Common.{arith}
use Rattle.std.proofs.lemmas.Grind.{common_steps}
use Rattle.ace_io.proofs.Taken.{front-taken}
use Rattle.ace_io.proofs.honest_source.HonestSourceSource.take.Goals as goal

pub returns-clause-bytes : goal.returns-clause-bytes
returns-clause-bytes c =
    rw (c.copy_from_slice.ensures.after, c.split_at.ensures.front, c.split_at.ensures.back, c.self.view_is)
    (front-taken _ _ _ (grind (arith, common_steps)) (grind (arith, common_steps)) (λ none. grind (arith, common_steps)))
