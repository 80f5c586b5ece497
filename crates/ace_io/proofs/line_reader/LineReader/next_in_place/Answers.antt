use Rattle.std.proofs.Common.{refl}
use Rattle.ace_io.proofs.Held.{lent-step}
use Rattle.ace_io.proofs.line_reader.LineReader.next_in_place.Goals as goal

pub returns-in-Some-clause-line : goal.returns-in-Some-clause-line
returns-in-Some-clause-line g c =
    let r = c.args.self.now in
    lent-step c.in-Some.line.now _ r.buffer _ r.start r.end _ _ _ _
    r.start_in_range refl c.pass.ensures.start c.pass.ensures.buffer c.in-Some.ensures c.pass.ensures.passed
