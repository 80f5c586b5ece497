use Rattle.std.proofs.Common.{refl}
use Rattle.ace_event.proofs.Lanes.{halves_are_bytes}
use Rattle.ace_event.proofs.line.lanes_of.Goals as goal

pub returns : goal.returns
returns c = halves_are_bytes c.args.word _ _ refl refl
