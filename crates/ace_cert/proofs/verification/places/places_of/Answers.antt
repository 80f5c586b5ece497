use Rattle.ace_cert.proofs.WalkEnds.{place-more}
use Rattle.ace_cert.proofs.verification.places.places_of.Goals as goal

pub loop-i-preserved : goal.loop-i-preserved
loop-i-preserved c = place-more c.args.reads.now c.loop-i.i c.get.result.now c.loop-i.places c.place_read.new.places c.get.ensures c.loop-i.invariant c.in-Ok.ensures
