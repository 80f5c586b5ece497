use Rattle.std.proofs.Common.{sym}
use Rattle.ace_sysck.proofs.WordLaws.{second_is}
use Rattle.ace_master_state.proofs.completions.has_second.Goals as goal

pub returns : goal.returns
returns c = sym (second_is c.args.word)
