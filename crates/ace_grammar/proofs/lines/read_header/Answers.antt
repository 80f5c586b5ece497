use Rattle.std.proofs.Common.{◌∙◌}
use Rattle.ace_grammar.proofs.FirstLines.Cut.{no_second_line, other_second_line, version_taken}
use Rattle.ace_grammar.proofs.FirstLines.NoHeader.{failed_behind_version, front_behind}
use Rattle.ace_grammar.proofs.lines.read_header.Goals as goal

pub returns-in-Err-take_line-clause-none : goal.returns-in-Err-take_line-clause-none
returns-in-Err-take_line-clause-none g c = (
  failed_behind_version c.in-Some.version _ _ _ c.bytes.result.now c.take_line.new.line c.in-Some.ensures.1 c.bytes.ensures.value (c.in-Ok-true.ensures.taken c.in-Ok-true.field-0-test).1 c.in-Err-take_line.ensures.pending,
  rw c.in-Ok-true.ensures.steady at c.in-Err-take_line.ensures.fault,
)

pub returns-in-Ok-false-take_line-clause-none : goal.returns-in-Ok-false-take_line-clause-none
returns-in-Ok-false-take_line-clause-none g c =
    let first = (c.in-Ok-true.ensures.taken c.in-Ok-true.field-0-test).1 in
    let version = version_taken c.in-Some.version _ _ c.bytes.result.now c.take_line.new.line c.in-Some.ensures.1 c.bytes.ensures.value first in (
      no_second_line c.in-Some.version _ _ c.in-Some.ensures.0 version (c.in-Ok-false-take_line.ensures.none c.in-Ok-false-take_line.field-0-test),
      front_behind _ _ _ _ version c.in-Ok-false-take_line.ensures.front,
      c.in-Ok-false-take_line.ensures.steady ∙ c.in-Ok-true.ensures.steady,
    )

pub returns-in-None-parse_ports-clause-none : goal.returns-in-None-parse_ports-clause-none
returns-in-None-parse_ports-clause-none g c =
    let first = (c.in-Ok-true.ensures.taken c.in-Ok-true.field-0-test).1 in
    let version = version_taken c.in-Some.version _ _ c.bytes.result.now c.take_line.new.line c.in-Some.ensures.1 c.bytes.ensures.value first in
    let second = c.in-Ok-true-take_line.ensures.taken c.in-Ok-true-take_line.field-0-test in (
      other_second_line c.in-Some.version _ _ _ c.take_line-2.new.line c.in-Some.ensures.0 version c.in-Ok-true-take_line.ensures.no_lf second.0 (rw c.bytes-2.ensures.value at c.in-None-parse_ports.ensures) second.1,
      front_behind _ _ _ _ version c.in-Ok-true-take_line.ensures.front,
      c.in-Ok-true-take_line.ensures.steady ∙ c.in-Ok-true.ensures.steady,
    )
