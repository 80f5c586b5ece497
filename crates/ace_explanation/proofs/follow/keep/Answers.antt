use Rattle.std.proofs.Common.{◌∷◌, subst, sym}
use Rattle.ace_explain.specs.LastLoads.{LoadsStand}
use Rattle.ace_explanation.proofs.follow.keep.Goals as goal

pub returns-in-Ok-clause-loads : goal.returns-in-Ok-clause-loads
returns-in-Ok-clause-loads c past s = subst (LoadsStand (c.args.event.now ∷ past)) (sym c.keep_line.ensures.loads) (c.hear.ensures past s)

pub returns-in-Err-clause-loads : goal.returns-in-Err-clause-loads
returns-in-Err-clause-loads c past s = subst (LoadsStand (c.args.event.now ∷ past)) (sym c.keep_line.ensures.loads) (c.hear.ensures past s)
