use Rattle.ace_chart_rows.proofs.Following.{fed_as}
use Rattle.ace_chart_rows.proofs.told.feed.Goals as goal

pub returns-in-Ok : goal.returns-in-Ok
returns-in-Ok c h past s few =
    rw c.rule_of.ensures (fed_as h past c.args.event.now c.feed.new.self c.in-Ok.step (c.in-Ok.ensures.answer 18446744073709551615 h past s) (c.in-Ok.ensures.stands 18446744073709551615 h past s few))
