use Rattle.std.proofs.Common.{Some, ap, ◌∙◌}
use Rattle.ace_lineck.proofs.Terms.{LineRecord, holder_at}
use Rattle.ace_lineck.proofs.lines.LineCheck.copy.Goals as goal

pub returns : goal.returns
returns c r l s at =
    c.copy.ensures ∙ ap (λ (v : LineRecord). (holder_at v.holders.items c.args.port).copy) (c.record.ensures (Some l) at) ∙ (s.lines l).holders.copy c.args.port
