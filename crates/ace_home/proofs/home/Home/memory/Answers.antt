use Rattle.ace_home.proofs.Kept.{lines-stand, recording}
use Rattle.ace_home.proofs.home.Home.memory.Goals as goal

pub returns : goal.returns
returns c = λ plan past s. c.memory.ensures (recording plan past) (lines-stand c.args.self.now plan past c.lines.result.now s c.lines.ensures)
