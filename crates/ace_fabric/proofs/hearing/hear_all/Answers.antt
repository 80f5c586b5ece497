use Rattle.ace_fabric.proofs.HeardBursts.{have-next, have-none, heard-event, heard-next, heard-none}
use Rattle.ace_fabric.proofs.hearing.hear_all.Goals as goal

pub loop-i-init : goal.loop-i-init
loop-i-init g c = record {
  one = heard-none g.A.Engine c.args.one.now;
  other = heard-none g.B.Engine c.args.other.now;
  engines = have-none g.E.Engine c.args.but _ c.args.engines.now;
}

pub loop-i-preserved : goal.loop-i-preserved
loop-i-preserved g c =
    let es = c.args.burst.now in
    let i = c.loop-i.i in
    let e = c.get-event.result in
    let at = c.get-event.ensures in
    let so_far = c.loop-i.invariant in
    record {
      one = heard-next g.A.Engine es i e at _ _ _ so_far.one (heard-event g.A.Engine e _ _ c.hear.ensures.serves c.hear.ensures.stands);
      other = heard-next g.B.Engine es i e at _ _ _ so_far.other (heard-event g.B.Engine e _ _ c.hear-in-loop-i.ensures.serves c.hear-in-loop-i.ensures.stands);
      engines = have-next g.E.Engine es i e at c.args.but _ _ _ so_far.engines c.hear_each.ensures;
    }
