use Rattle.std.proofs.Common.{sym, ap, ◌∙◌}
use Rattle.ace_model.specs.Trace.{is_some_and}
use Rattle.ace_sysck.specs.Barriers.{pair_in}
use Rattle.ace_points.proofs.Pairs.{open_is}
use Rattle.ace_points.proofs.barriers.open_pair.Goals as goal

pub returns : goal.returns
returns c = λ r test s.
    open_is r.past c.args.port test c.barrier.result (c.barrier.ensures r s) ∙ ap (λ o. is_some_and o (λ b. test (pair_in b))) (sym c.opened.ensures)
