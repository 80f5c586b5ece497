use Rattle.std.proofs.Common.{sym, ap, ◌∙◌}
use Rattle.ace_model.specs.Trace.{is_some_and}
use Rattle.ace_sysck.specs.Barriers.{pair_in}
use Rattle.ace_points.specs.Asked.{is_behind}
use Rattle.ace_points.proofs.barriers.is_before_barrier.Goals as goal

pub returns-in-Some : goal.returns-in-Some
returns-in-Some c = λ r s.
    c.is_behind.ensures ∙ sym (c.open_pair.ensures r (is_behind c.args.x.now) s ∙ ap (λ o. is_some_and o (λ b. is_behind c.args.x.now (pair_in b))) c.in-Some.is)

pub returns-in-None : goal.returns-in-None
returns-in-None c = λ r s.
    sym (c.open_pair.ensures r (is_behind c.args.x.now) s ∙ ap (λ o. is_some_and o (λ b. is_behind c.args.x.now (pair_in b))) c.in-None.is)
