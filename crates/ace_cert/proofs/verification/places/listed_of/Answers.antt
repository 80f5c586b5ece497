use Rattle.ace_cert.proofs.WalkEnds.{listed-more}
use Rattle.ace_cert.proofs.verification.places.listed_of.Goals as goal

pub loop-i-preserved : goal.loop-i-preserved
loop-i-preserved c = listed-more c.args.lines.now c.loop-i.i c.loop-i.i c.get.result.now c.loop-i.listed c.list_line.new.listed c.get.ensures c.loop-i.invariant c.in-Ok.ensures
