use Rattle.std.proofs.Common.{take, subst, sym}
use Rattle.ace_model.specs.Trace.{Trace}
use Rattle.ace_runs.specs.Bursts.{onto}
use Rattle.ace_master_state.specs.Kept.{KeptStands}
use Rattle.ace_master.proofs.AcePorts.Bursts.{legal-at, low-at, onto-at}
use Rattle.ace_master.proofs.kept_burst.hear_all.Goals as goal

pub loop-i-preserved : goal.loop-i-preserved
loop-i-preserved c = λ plan past p k legal low.
    let es = c.args.burst.now in
    let i = c.loop-i.i in
    let e = c.get.result in
    subst (λ (t : Trace). KeptStands plan t p c.hear.new.self) (sym (onto-at es i e past c.get.ensures))
    (c.hear.ensures plan (onto (take i es) past) p (c.loop-i.invariant plan past p k legal low) (legal-at plan es i e past c.get.ensures legal) (λ own. low-at es i e low c.get.ensures))
