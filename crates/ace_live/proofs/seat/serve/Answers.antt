use Rattle.std.proofs.Common.{rules}
use Rattle.ace_live.proofs.Calls.{serves_at}
use Rattle.ace_live.proofs.seat.serve.Goals as goal

pub fetch_add-requires : goal.fetch_add-requires
fetch_add-requires c = (search rules, search rules, serves_at _ _ _ _ _ _ c.requires.holding.0 c.requires.holding.1 c.requires.holding.2)
