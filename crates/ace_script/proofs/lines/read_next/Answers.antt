use Rattle.std.proofs.Common.{arith}
use Rattle.ace_script.proofs.HeaderReads.{cut_line_is_bad}
use Rattle.ace_script.proofs.lines.read_next.Goals as goal

pub returns-in-Ok-NoLf-clause-none : goal.returns-in-Ok-NoLf-clause-none
returns-in-Ok-NoLf-clause-none g c =
    let cut = rw c.in-Ok-NoLf.field-0-is at c.in-Ok-NoLf.ensures.line in (
      omega (arith, c.count-count.ensures.value, c.count-count.ensures.bound),
      omega (arith, c.from.ensures, c.count-count.ensures.value),
      cut_line_is_bad c.args.view.now.plan.header c.args.view.now.plan.operations _ _ c.next.new.into c.in-Ok-NoLf.ensures.no_lf cut.0 cut.2 cut.3,
      c.in-Ok-NoLf.ensures.cause.steady,
    )
