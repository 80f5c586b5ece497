use Rattle.std.proofs.Common.{option_and_then, ap, ◌∙◌}
use Rattle.ace_model.specs.Copies.{zero_line}
use Rattle.ace_portck.specs.Targets.{data_of_write}
use Rattle.ace_home.proofs.Kept.{ports-stand, recording}
use Rattle.ace_home.proofs.Outstanding.{out-own}
use Rattle.ace_home.proofs.home.Home.burst.Goals as goal

pub returns : goal.returns
returns c = λ plan past p s o.
    let h = plan.header in
    let stands = ports-stand c.args.self.now plan past c.ports-ports.result.now s c.ports-ports.ensures in
    c.copied.ensures ∙ c.burst.ensures (recording plan past) zero_line stands
    ∙ ap (option_and_then (data_of_write past)) (out-own h past s.legal.accepted p c.args.write.now o)
