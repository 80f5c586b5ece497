use Rattle.ace_malformed.proofs.Headers.{second_failed, second_none, second_other}
use Rattle.ace_malformed.proofs.reading.read_ports.Goals as goal

pub returns-in-None-clause-none : goal.returns-in-None-clause-none
returns-in-None-clause-none g c first before =
    let whole = c.in-Ok-true.ensures.taken c.in-Ok-true.field-0-test in
    second_other first _ _ _ _ _ _ _ _ c.requires before c.take_line.ensures.no_lf whole.0 c.bytes.ensures.value c.in-None.ensures whole.1
    c.in-Ok-true.ensures.front c.in-Ok-true.ensures.steady

pub returns-in-Ok-false-clause-none : goal.returns-in-Ok-false-clause-none
returns-in-Ok-false-clause-none g c first before =
    second_none first _ _ _ _ _ c.requires before (c.in-Ok-false.ensures.none c.in-Ok-false.field-0-test) c.in-Ok-false.ensures.front c.in-Ok-false.ensures.steady

pub returns-in-Err-clause-none : goal.returns-in-Err-clause-none
returns-in-Err-clause-none g c first before = second_failed first _ _ _ _ _ before c.in-Err.ensures.pending c.in-Err.ensures.fault
