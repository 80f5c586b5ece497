use Rattle.std.proofs.Common.{rules, ◌≡◌, ◌||◌, ◌&&◌, ◌∙◌}
use Rattle.ace_points.specs.Asked.{wants_line}
use Rattle.ace_points.proofs.Lists.{any_next, two_next}
use Rattle.ace_points.proofs.other_ports.two_want_line.Goals as goal

pub loop-port-preserved : goal.loop-port-preserved
loop-port-preserved c =
    let here = c.wants_line-wants.result in
    let any-is : c.if-wants-2.any ≡ (here || c.loop-port.any) = search rules in
    let two-is : c.if-any.two ≡ ((here && c.loop-port.any) || c.loop-port.two) = search rules in
    record {
      one = λ r s. any-is ∙ any_next (wants_line r.header r.past c.args.x.now) c.loop-port.port here c.loop-port.any (c.wants_line-wants.ensures r s) (c.loop-port.invariant.one r s);
      both = λ r s. two-is ∙ two_next (wants_line r.header r.past c.args.x.now) c.loop-port.port here c.loop-port.any c.loop-port.two
          (c.wants_line-wants.ensures r s) (c.loop-port.invariant.one r s) (c.loop-port.invariant.both r s);
    }
