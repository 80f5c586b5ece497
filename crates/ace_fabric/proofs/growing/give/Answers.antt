use Rattle.std.proofs.Common.{◌∙◌, sym}
use Rattle.std.proofs.lemmas.Bool.{eq-eqb, ltb-true}
use Rattle.ace_model.specs.declared.plans.PlanOp.{PlanOp}
use Rattle.ace_model.proofs.GrowingPlans.{right_shorter}
use Rattle.ace_fabric.proofs.LongerRuns.{masters-grow}
use Rattle.ace_fabric.proofs.Moves.{own-at}
use Rattle.ace_fabric.proofs.growing.give.Goals as goal

pub push-requires : goal.push-requires
push-requires g c =
    let run = c.requires in
    let port = c.args.port in
    let own = c.from-own.result in
    let at = own-at g.M.Engine run.0 run.1 c.args.masters.now port own c.index-masters-own.result run.2 run.3 c.from-own.ensures in
    (run.0, run.1, port, run.2.stand own _ at, run.2.serve own _ at port ∙ eq-eqb port own (sym c.from-own.ensures), run.4)

pub returns : goal.returns
returns g c = λ plan past a right.
    let port = c.args.port in
    let own = c.from-own.result in
    let o : PlanOp = record { port = port; op = c.args.op } in
    let low = ltb-true port plan.header.ports (right_shorter plan o right).1.port in
    let at = own-at g.M.Engine plan past c.args.masters.now port own c.index-masters-own.result a low c.from-own.ensures in
    masters-grow g.M.Engine plan past o own c.args.masters.now _ c.push.new.self c.from-own.ensures right a at c.push.ensures.serves
    (c.push.ensures.stands plan past port (a.stand own _ at) (a.serve own _ at port ∙ eq-eqb port own (sym c.from-own.ensures)) right)
