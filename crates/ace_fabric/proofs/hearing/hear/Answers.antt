use Rattle.std.proofs.Common.{take, sym, ◌∙◌, subst}
use Rattle.ace_runs.specs.Bursts.{onto}
use Rattle.ace_engine.specs.Engines.{is_given_by}
use Rattle.ace_fabric.proofs.Between.{legal-at, none-at, onto-at}
use Rattle.ace_fabric.proofs.hearing.hear.Goals as goal

pub loop-i-preserved : goal.loop-i-preserved
loop-i-preserved g c =
    let E = g.E.Engine in
    let es = c.args.burst.now in
    let i = c.loop-i.i in
    let e = c.get.result in
    record {
      serves = λ p. c.hear.ensures.serves p ∙ c.loop-i.invariant.serves p;
      stands = λ plan past s legal none.
          subst (E.stands c.hear.new.self plan) (sym (onto-at es i e past c.get.ensures))
          (c.hear.ensures.stands plan (onto (take i es) past) (c.loop-i.invariant.stands plan past s legal none)
          (legal-at plan es i e past c.get.ensures legal)
          (λ p own. none-at (λ before f. is_given_by E.kind before p f) es i e past c.get.ensures (none p (sym (c.loop-i.invariant.serves p) ∙ own))));
    }
