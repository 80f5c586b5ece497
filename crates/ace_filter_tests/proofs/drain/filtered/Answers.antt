use Rattle.std.proofs.Common.{length, ap, sym, subst, arith}
use Rattle.ace_model.specs.Lines.{known_lines}
use Rattle.ace_model.specs.Trace.{Trace}
use Rattle.ace_fabric.specs.Runs.{Run}
use Rattle.ace_filter.specs.Filter.{FilterStands}
use Rattle.ace_filter_tests.proofs.drain.filtered.Goals as goal

pub drain_filtered-requires-clause-heard : goal.drain_filtered-requires-clause-heard
drain_filtered-requires-clause-heard c =
    let system = c.in_ok-system.system in
    subst (λ (t : Trace). FilterStands c.in_ok-filter.filter system.plan.header t) (sym (ap (λ (r : Run). r.past) c.in_ok-system.ensures))
    (c.in_ok-filter.ensures.stands system.plan.header c.keeps.ensures.legal.right.header)

pub drain_filtered-requires-clause-room : goal.drain_filtered-requires-clause-room
drain_filtered-requires-clause-room c =
    let known = ap (λ (r : Run). length (known_lines r.past)) c.in_ok-system.ensures in
    let lines = c.in_ok-filter.ensures.room in
    let few = c.keeps.ensures.legal.right.few in
    omega (arith, known, lines, few)
