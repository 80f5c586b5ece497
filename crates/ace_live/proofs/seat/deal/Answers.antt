use Rattle.std.proofs.Common.{rules, ◌∙◌}
use Rattle.ace_live.proofs.Dealing.{splits_at, left_at, right_at, dealt, dealt_token}
use Rattle.ace_live.proofs.seat.deal.Goals as goal

pub split_seat-seat-requires : goal.split_seat-seat-requires
split_seat-seat-requires c = (search rules, search rules, splits_at _ _ _ c.loop-port-test.true _ c.loop-port.invariant.1 _)

pub loop-port-preserved : goal.loop-port-preserved
loop-port-preserved c =
    let split = c.split_seat-seat.ensures in
    let inv = c.loop-port.invariant in
    let right = right_at _ _ _ c.loop-port-test.true _ inv.1 _ split.4 in (
      search rules,
      left_at _ _ _ c.loop-port-test.true _ inv.1 _ split.2,
      c.in_ok-push.ensures.items ∙ dealt _ _ _ _ inv.2 (dealt_token _ _ _ _ _ (split.3 ∙ inv.0) right),
      search rules,
    )
