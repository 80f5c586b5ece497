use Rattle.std.proofs.Common.{◌∙◌}
use Rattle.ace_master_state.proofs.AsManyHeld.{room-is}
use Rattle.ace_master_state.proofs.cached.Cached.has_room.Goals as goal

pub returns : goal.returns
returns c = λ h ways past p s. c.has_room.ensures.room ∙ room-is h ways past p c.args.self.now.cache c.has_room.ensures.lawful s.ways s.lines
