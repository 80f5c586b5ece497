use Rattle.std.proofs.Common.{◌≡◌, ◌<◌, ◌-◌, Some, arith, ap, length, sym, ◌∙◌}
use Rattle.ace_chart_rows.proofs.Versions.{newest_here, newest_none, newest_not_here}
use Rattle.ace_chart_rows.specs.Values.{has}
use Rattle.ace_chart_rows.proofs.values.newest_with.Goals as goal

pub returns-then-has : goal.returns-then-has
returns-then-has c =
    let items = c.args.values.now.kept.items in
    let place = c.loop-place.place in
    let all : length items ≡ c.len-count.result = omega (arith, c.len-count.ensures) in
    let within : place < length items = omega (arith, c.loop-place-test.true, c.len-count.ensures) in
    let here = ap (has c.args.told.now) (sym c.index.ensures) ∙ (sym c.has.ensures ∙ c.if-has.true) in
    sym (sym c.loop-place.invariant.so_far
    ∙ (newest_here (has c.args.told.now) items place c.index.result.now within here ∙ ap (λ n. Some (n - 1 - place)) all))

pub loop-place-preserved : goal.loop-place-preserved
loop-place-preserved c =
    let within : c.loop-place.place < length c.args.values.now.kept.items = omega (arith, c.loop-place-test.true, c.len-count.ensures) in
    let not_here = ap (has c.args.told.now) (sym c.index.ensures) ∙ (sym c.has.ensures ∙ c.if-has.false) in
    record {
      few = omega (arith, c.loop-place-test.true);
      so_far = sym (newest_not_here (has c.args.told.now) c.args.values.now.kept.items c.loop-place.place c.index.result.now within not_here)
          ∙ c.loop-place.invariant.so_far;
    }

pub returns : goal.returns
returns c =
    sym (sym c.loop-place.invariant.so_far
    ∙ newest_none (has c.args.told.now) c.args.values.now.kept.items c.loop-place.place (omega (arith, c.loop-place-test.false, c.len-count.ensures)))
