use Rattle.ace_engine.specs.Engines.{numbers_of}
use Rattle.ace_whole_runs.proofs.Interconnect.{gives-legal}
use Rattle.ace_whole_runs.proofs.InterconnectMoves.{interconnect-moves}
use Rattle.ace_whole_runs.proofs.laws.interconnect_has_a_step.Goals as goal

pub returns : goal.returns
returns c plan past p kind other steps legal t =
    let g = interconnect-moves plan past p legal kind other steps t in
    record { burst = g.burst; step = g.step; legal = gives-legal (numbers_of kind) plan past p legal g }
