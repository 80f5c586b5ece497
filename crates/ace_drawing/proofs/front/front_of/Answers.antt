use Rattle.std.proofs.Common.{subst}
use Rattle.ace_drawing.proofs.Fronts.{front_read}
use Rattle.ace_drawing.specs.Fronts.{IsFront}
use Rattle.ace_drawing.proofs.front.front_of.Goals as goal
use Rattle.ace_grammar.specs.Reader.{header_of}

pub returns-in-Ok-read_events : goal.returns-in-Ok-read_events
returns-in-Ok-read_events c =
    let read = c.in-Ok-read_events.ensures.read c.new-source.result.inner.now c.in-Ok.ensures.reads in
    rw c.header.ensures
    (subst (λ b. IsFront b.now c.args.count (header_of c.read_events.new.reader) c.read_events.new.events.items) c.new-source.ensures.inner
    (front_read _ _ _ _ _ read c.in-Ok-read_events.ensures.count))
