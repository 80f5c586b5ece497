use Rattle.std.proofs.Common.{take, subst, sym}
use Rattle.ace_model.specs.Trace.{Trace}
use Rattle.ace_runs.specs.Bursts.{onto}
use Rattle.ace_fabric.specs.Left.{LeftStands}
use Rattle.ace_fabric.proofs.Between.{legal-at, onto-at}
use Rattle.ace_fabric.proofs.left.Left.hear_all.Goals as goal

pub loop-i-preserved : goal.loop-i-preserved
loop-i-preserved c = λ plan past s legal.
    let es = c.args.burst.now in
    let i = c.loop-i.i in
    let e = c.get.result in
    subst (λ (t : Trace). LeftStands c.hear.new.self plan t) (sym (onto-at es i e past c.get.ensures))
    (c.hear.ensures plan (onto (take i es) past) (c.loop-i.invariant plan past s legal) (legal-at plan es i e past c.get.ensures legal))
