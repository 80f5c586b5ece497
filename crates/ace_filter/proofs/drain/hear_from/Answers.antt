use Rattle.std.proofs.Common.{◌∙◌, reverse, subst, arith}
use Rattle.std.proofs.lemmas.List.{take_all}
use Rattle.ace_filter.specs.Filter.{FilterStands}
use Rattle.ace_filter.proofs.Draining.{heard-next}
use Rattle.ace_filter.proofs.drain.hear_from.Goals as goal

pub loop-i-preserved : goal.loop-i-preserved
loop-i-preserved c = record {
  stands = λ plan legal room old.
      let same = c.loop-i.invariant.room in
      heard-next c.loop-i.filter c.hear.new.self plan c.args.events.now c.loop-i.i _ c.loop-i-test.true legal (omega (arith, room, same)) (c.loop-i.invariant.stands plan legal room old)
      (λ past may. c.hear.ensures.stands plan.header past may);
  room = c.hear.ensures.room ∙ c.loop-i.invariant.room;
}

pub returns-clause-stands : goal.returns-clause-stands
returns-clause-stands c = λ plan legal room old.
    let high = c.loop-i-test.false in
    subst (λ es. FilterStands c.loop-i.filter plan.header (reverse es)) (take_all c.loop-i.i c.args.events.now (omega (arith, high))) (c.loop-i.invariant.stands plan legal room old)
