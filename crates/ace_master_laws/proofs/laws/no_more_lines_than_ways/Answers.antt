use Rattle.ace_master_laws.proofs.Lines.HeldLines.{held-within}
use Rattle.ace_master_laws.proofs.laws.no_more_lines_than_ways.Goals as goal

pub returns : goal.returns
returns c = held-within
