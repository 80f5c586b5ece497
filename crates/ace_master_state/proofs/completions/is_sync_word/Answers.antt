use Rattle.std.proofs.Common.{sym}
use Rattle.ace_sysck.proofs.WordLaws.{sync_is}
use Rattle.ace_master_state.proofs.completions.is_sync_word.Goals as goal

pub returns : goal.returns
returns c = sym (sync_is c.args.word)
