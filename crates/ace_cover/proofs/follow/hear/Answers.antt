use Rattle.std.proofs.Common.{Err, None, ◌∷◌, ap, arith, refl}
use Rattle.ace_cover.proofs.Counting.{count_few}
use Rattle.ace_cover.proofs.Hearing.{broken_heard, fine_heard, over_heard}
use Rattle.ace_cover.specs.Counts.{count}
use Rattle.ace_cover.proofs.follow.hear.Goals as goal

pub returns-in-Ok-Fine-clause-heard : goal.returns-in-Ok-Fine-clause-heard
returns-in-Ok-Fine-clause-heard c lines h past s few =
    let e = c.args.event.now in
    fine_heard lines _ h past e _ _ (rw c.in-Ok-Fine.field-0-is at c.in-Ok-Fine.ensures.answer lines h past s.0)
    (rw c.in-Ok-Fine.field-0-is at c.in-Ok-Fine.ensures.stands lines h past s.0 few)
    (c.count_shown.ensures (count h past) (count h (e ∷ past)) s.1 (λ p. omega (arith, count_few h past p, few))
    (λ p. rw (c.shown_now-shown.ensures lines h past None s.0) refl))

pub returns-in-Ok-Broken-clause-heard : goal.returns-in-Ok-Broken-clause-heard
returns-in-Ok-Broken-clause-heard c lines h past s few =
    broken_heard lines _ h past c.args.event.now _ _ c.in-Ok-Broken.index c.in-Ok-Broken.rule
    (rw c.in-Ok-Broken.field-0-is at c.in-Ok-Broken.ensures.answer lines h past s.0)

pub returns-in-Err-TooManyLines-clause-heard : goal.returns-in-Err-TooManyLines-clause-heard
returns-in-Err-TooManyLines-clause-heard c lines h past s few =
    over_heard lines _ h past c.args.event.now _ _ (c.in-Err-TooManyLines.ensures.too_many lines h past s.0 (ap Err c.in-Err-TooManyLines.field-0-is))
