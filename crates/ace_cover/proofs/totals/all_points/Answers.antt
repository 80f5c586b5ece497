use Rattle.std.proofs.Common.{refl}
use Rattle.ace_cover.proofs.totals.all_points.Goals as goal

pub returns : goal.returns
returns c =
    rw (
      c.in_ok-push_points-9.ensures,
      c.in_ok-push_points-8.ensures,
      c.in_ok-push_points-7.ensures,
      c.in_ok-push_points-6.ensures,
      c.in_ok-push_points-5.ensures,
      c.in_ok-push_points-4.ensures,
      c.in_ok-push_points-3.ensures,
      c.in_ok-push_points-2.ensures,
      c.in_ok-push_points.ensures,
      c.new-points.ensures.items,
      c.transaction_points.ensures,
      c.start_points.ensures,
      c.read_end_points.ensures,
      c.write_end_points.ensures,
      c.answer_points.ensures,
      c.update_points.ensures,
      c.silent_points.ensures,
      c.rule_points.ensures,
      c.situation_points.ensures,
    )
    refl
