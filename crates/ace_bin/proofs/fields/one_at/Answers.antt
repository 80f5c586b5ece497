use Rattle.ace_bin.proofs.Numbers.{one_is}
use Rattle.ace_bin.proofs.fields.one_at.Goals as goal

pub returns : goal.returns
returns c = one_is c.args.place c.args.bytes.now c.requires
