use Rattle.std.proofs.Common.{◌∙◌, rules}
use Rattle.ace_drawing.proofs.front.read_events.Goals as goal

pub loop-preserved : goal.loop-preserved
loop-preserved g c = record {
  reads_on = c.in-Ok.ensures.reads_on;
  header = c.read_next.ensures.header ∙ c.loop.invariant.header;
  read = λ bytes read. c.in-Ok.ensures.read bytes (c.loop.invariant.read bytes read);
  many = search rules;
}
