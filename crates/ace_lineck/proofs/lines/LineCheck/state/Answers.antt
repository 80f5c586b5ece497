use Rattle.std.proofs.Common.{Some, ap, ◌∙◌}
use Rattle.ace_lineck.proofs.Terms.{LineRecord, state_at}
use Rattle.ace_lineck.proofs.lines.LineCheck.state.Goals as goal

pub returns : goal.returns
returns c r l s at =
    c.state.ensures ∙ ap (λ (v : LineRecord). state_at v.states c.args.port) (c.record.ensures (Some l) at) ∙ (s.lines l).states.state c.args.port
