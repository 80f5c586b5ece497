use Rattle.std.proofs.Common.{◌++◌, ◌∙◌, length, ap, arith}
use Rattle.ace_fabric.specs.Runs.{Run}
use Rattle.ace_filter.proofs.Draining.{kept-rounds}
use Rattle.ace_filter.proofs.drain.drain_filtered.Goals as goal

pub loop-system-preserved : goal.loop-system-preserved
loop-system-preserved c =
    let old = c.loop-system.invariant in
    let more = c.round.ensures.kept in
    let all = kept-rounds c.args.system.now c.loop-system.system c.round.new.system old.kept.0 more.0 old.kept.1 old.kept.2 more.1 more.2 in
    record {
      kept = (old.kept.0 ++ more.0, all.0, all.1);
      heard = c.round.ensures.heard;
      room = c.round.ensures.room ∙ old.room;
    }

pub round-requires-clause-room : goal.round-requires-clause-room
round-requires-clause-room c =
    let now = ap (λ (r : Run). length r.plan.operations) c.loop-system.invariant.kept.1 in
    let same = c.loop-system.invariant.room in
    let room = c.requires.room in
    omega (arith, now, same, room)

pub returns-clause-kept : goal.returns-clause-kept
returns-clause-kept c =
    let old = c.loop-system.invariant in
    let more = c.round.ensures.kept in
    let all = kept-rounds c.args.system.now c.loop-system.system c.round.new.system old.kept.0 more.0 old.kept.1 old.kept.2 more.1 more.2 in
    (old.kept.0 ++ more.0, all.0, all.1)

pub returns-clause-done : goal.returns-clause-done
returns-clause-done c = c.round.ensures.done c.loop-system-test.false
