use Rattle.std.proofs.Common.{arith, refl, rules}
use Rattle.ace_chart_rows.proofs.Following.{chart_right}
use Rattle.ace_chart_rows.proofs.Numbered.{followed_numbered, stop_numbered}
use Rattle.ace_chart_rows.proofs.collect.chart_of.Goals as goal

pub returns-clause-chart : goal.returns-clause-chart
returns-clause-chart c =
    chart_right c.args.header c.args.events.now c.args.line c.args.selection.now c.follow.new.checker c.follow.new.collected _ c.in_ok-stop.stop
    c.in_ok-stop.ensures.followed refl refl c.in_ok-finish.ensures refl
    c.row_at_end.ensures c.rule_at_end.ensures (λ most past b s. c.look_now-last.ensures most c.args.header past b s)

pub returns-clause-drawable : goal.returns-clause-drawable
returns-clause-drawable c = record {
  few = rw c.in_ok-finish.ensures (omega (arith, c.in_ok-stop.ensures.few, c.requires.most));
  numbers = rw c.in_ok-finish.ensures
      (followed_numbered c.args.header c.args.events.now c.args.line c.args.selection.now c.follow.new.checker c.follow.new.collected c.in_ok-stop.stop
      c.in_ok-stop.ensures.followed (search rules));
  stop = rw c.row_at_end.ensures (stop_numbered c.args.header c.args.events.now c.args.line c.args.selection.now c.follow.new.checker c.follow.new.collected c.in_ok-stop.stop
      c.in_ok-stop.ensures.followed (search rules));
}
