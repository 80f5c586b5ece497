use Rattle.std.proofs.Common.{◌≡◌}
use Rattle.ace_call.proofs.PieceLemmas.{HasGiven}
use Rattle.ace_call.proofs.pieces.give_each.Given as goal

abbrev pub invariant-loop-piece : goal.invariant-loop-piece
invariant-loop-piece g l = record {
  given : HasGiven (g.K.Sink.held l.initial.sink) (g.K.Sink.held l.sink) l.pieces l.piece-index;
  steady : g.K.Sink.faults l.sink ≡ g.K.Sink.faults l.initial.sink;
}
