use Rattle.std.proofs.Common.{None, Err, ap}
use Rattle.ace_explanation.proofs.Hearing.{broken_heard, kept_heard, over_heard}
use Rattle.ace_explanation.proofs.follow.hear.Goals as goal

pub returns-in-Ok-Fine-clause-heard : goal.returns-in-Ok-Fine-clause-heard
returns-in-Ok-Fine-clause-heard c lines past s few =
    let stands = rw c.in-Ok-Fine.field-0-is at c.in-Ok-Fine.ensures.stands lines c.args.header past s.0 few in
    kept_heard lines _ c.args.header past c.args.event.now c.args.listener.now.journal c.args.listener.now.since c.next_line-line.result c.next_row-row.result c.keep.result c.keep.new.told
    (rw c.in-Ok-Fine.field-0-is at c.in-Ok-Fine.ensures.answer lines c.args.header past s.0) (rw c.keep.ensures.checker stands) (c.keep.ensures.loads past s.1) s.2 s.3
    (c.next_line-line.ensures lines c.args.header past None s.0) (c.next_row-row.ensures lines c.args.header past None s.0)
    c.keep.ensures.journal (λ on since line. c.keep.ensures.since on lines c.args.header past since stands line) c.keep.ensures.none

pub returns-in-Ok-Broken-clause-heard : goal.returns-in-Ok-Broken-clause-heard
returns-in-Ok-Broken-clause-heard c lines past s few =
    let answer = rw c.in-Ok-Broken.field-0-is at c.in-Ok-Broken.ensures.answer lines c.args.header past s.0 in
    broken_heard lines _ c.args.header past c.args.event.now c.refuse.new.told c.in-Ok-Broken.index c.in-Ok-Broken.rule c.refuse.ensures.verdict answer
    (c.refuse.ensures.breaks lines past _ (rw c.in-Ok-Broken.field-0-is at c.in-Ok-Broken.ensures.stands lines c.args.header past s.0 few) s.1 s.2 s.3
    (c.next_line-line.ensures lines c.args.header past None s.0) (c.next_row-row.ensures lines c.args.header past None s.0) answer.1)

pub returns-in-Err-TooManyLines-clause-heard : goal.returns-in-Err-TooManyLines-clause-heard
returns-in-Err-TooManyLines-clause-heard c lines past s few =
    rw c.stop-in-Err-TooManyLines.ensures
    (over_heard lines _ c.args.header past c.args.event.now (c.in-Err-TooManyLines.ensures.too_many lines c.args.header past s.0 (ap Err c.in-Err-TooManyLines.field-0-is)))
