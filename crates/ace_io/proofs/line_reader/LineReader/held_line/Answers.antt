use Rattle.ace_io.specs.Reader.{held}
use Rattle.ace_io.proofs.Held.{front-free}
use Rattle.ace_io.proofs.line_reader.LineReader.held_line.Goals as goal

pub returns-in-None : goal.returns-in-None
returns-in-None g c = front-free (held c.args.self.now) 256 _ c.min-most.ensures c.in-None.ensures
