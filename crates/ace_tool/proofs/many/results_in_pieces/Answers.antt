use Rattle.std.proofs.Common.{IfOk, ap, subst, ◌∙◌}
use Rattle.std.specs.List.{AllZip}
use Rattle.rayon.proofs.ListFacts.{IfOk-then}
use Rattle.ace_tool.proofs.Running.{told_all}
use Rattle.ace_tool.specs.Results.{IsResult}
use Rattle.ace_tool.specs.Told.{options_of}
use Rattle.ace_tool.proofs.many.results_in_pieces.Goals as goal

pub returns : goal.returns
returns g c =
    let slice = ap (λ it. it.base.slice.now) c.map.ensures.base ∙ ap (λ it. it.slice.now) c.with_min_len.ensures.base ∙ c.par_iter.ensures in
    IfOk-then c.collect.result _ _ c.collect.ensures (λ told h.
    let chain = h.1 in
    let each = subst (λ it. AllZip (λ z r. IfOk r (IsResult (options_of it.2.now) (g.X.Checks.knows it.0.now) z.now.now)) chain.0 h.0) c.map.ensures.f chain.2 in
    told_all (IsResult (options_of c.args.options.now) (g.X.Checks.knows c.args.checks.now)) c.args.paths.now chain.0 h.0 told _ (chain.1 ∙ slice) each h.2)
