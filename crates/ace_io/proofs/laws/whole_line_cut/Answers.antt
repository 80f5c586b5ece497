use Rattle.ace_io.proofs.Cutting.{whole_line_cut}
use Rattle.ace_io.proofs.laws.whole_line_cut.Goals as goal

pub returns : goal.returns
returns c = whole_line_cut
