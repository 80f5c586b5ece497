use Rattle.std.proofs.Common.{refl}
use Rattle.ace_home.proofs.home.HomeEngine.turn.Goals as goal

pub turn_among-requires-clause-stands : goal.turn_among-requires-clause-stands
turn_among-requires-clause-stands c =
    let s = c.requires.stands in
    (s.0, s.1, s.2, s.3, λ l p ace held. refl)
