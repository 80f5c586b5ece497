use Rattle.std.proofs.Common.{sym, ap, ◌∙◌}
use Rattle.ace_model.specs.Trace.{is_some_and}
use Rattle.ace_sysck.specs.Barriers.{pair_in}
use Rattle.ace_points.specs.Asked.{has_incomplete}
use Rattle.ace_points.proofs.barriers.answers_early.Goals as goal

pub returns-in-Some : goal.returns-in-Some
returns-in-Some c = λ r p s.
    c.has_incomplete.ensures r p ∙ sym (c.open_pair.ensures r (has_incomplete r.past c.args.x.now) s ∙ ap (λ o. is_some_and o (λ b. has_incomplete r.past c.args.x.now (pair_in b))) c.in-Some.is)

pub returns-in-None : goal.returns-in-None
returns-in-None c = λ r p s.
    sym (c.open_pair.ensures r (has_incomplete r.past c.args.x.now) s ∙ ap (λ o. is_some_and o (λ b. has_incomplete r.past c.args.x.now (pair_in b))) c.in-None.is)
