use Rattle.std.proofs.Common.{take, ap, sym, ◌∙◌}
use Rattle.ace_bin.specs.Window.{held}
use Rattle.ace_bin.proofs.Taken.{cut_header, wrong_header, some_taken, passed}
use Rattle.ace_bin.proofs.finding.read_header.Goals as goal

pub returns-in-Ok-false-clause-none : goal.returns-in-Ok-false-clause-none
returns-in-Ok-false-clause-none g c =
    let e = c.in-Ok-false.ensures in (
      cut_header _ _ (held c.fill.new.self) e.kept (e.end c.in-Ok-false.field-0-test) (e.short c.in-Ok-false.field-0-test),
      some_taken _ _ (held c.fill.new.self) e.kept,
      e.cause.steady,
    )

pub returns-in-Some-clause-header : goal.returns-in-Some-clause-header
returns-in-Some-clause-header g c =
    passed _ _ _ (take 10 (held c.fill.new.self)) _ c.in-Ok-true.ensures.kept c.pass.ensures.passed
    (ap (take 10) (sym c.front.ensures) ∙ c.in-Some.ensures.some.1)

pub returns-in-None-clause-none : goal.returns-in-None-clause-none
returns-in-None-clause-none g c =
    let e = c.in-Ok-true.ensures in (
      wrong_header _ _ (held c.fill.new.self) e.kept (e.whole c.in-Ok-true.field-0-test) (rw c.front.ensures at c.in-None.ensures.none),
      some_taken _ _ (held c.fill.new.self) e.kept,
      e.cause.steady,
    )
