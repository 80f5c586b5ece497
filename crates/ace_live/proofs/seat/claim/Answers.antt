use Rattle.std.proofs.Common.{rules}
use Rattle.ace_live.proofs.Calls.{claims_at}
use Rattle.ace_live.proofs.seat.claim.Goals as goal

pub fetch_add-requires : goal.fetch_add-requires
fetch_add-requires c = (search rules, search rules, claims_at _ _ _ _ _ _ c.requires.idle c.requires.owner)
