use Rattle.ace_script.proofs.GeneratedPlans.{whole_strobe}
use Rattle.ace_cover_script.proofs.operations.word_strobe.Goals as goal

pub returns : goal.returns
returns c = whole_strobe c.args.word c.requires
