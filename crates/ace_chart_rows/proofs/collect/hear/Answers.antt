use Rattle.std.proofs.Common.{None, refl, ◌∙◌}
use Rattle.ace_chart_rows.proofs.Following.{heard_break, heard_fine}
use Rattle.ace_chart_rows.specs.declared.collect.Stop.{Stop}
use Rattle.ace_chart_rows.proofs.collect.hear.Goals as goal

pub returns-in-Ok-clause-heard : goal.returns-in-Ok-clause-heard
returns-in-Ok-clause-heard c h past s few same =
    let tells = c.told_on-told.ensures 18446744073709551615 h past None s in
    let row =
    c.row_of-row.ensures 18446744073709551615 h past None c.args.selection.now s same.left_out same.values (tells ∙ rw same.values refl) in
    heard_fine h past c.args.line c.args.selection.now c.args.event.now c.feed.new.checker c.part_at-part.result c.row_of-row.result c.told_on-told.result
    c.args.collected.now c.take_event.new.collected (c.part_at-part.ensures 18446744073709551615 h past None s) row tells few
    c.in-Ok.ensures.done c.in-Ok.ensures.newest c.in-Ok.ensures.counted c.in-Ok.ensures.values same (rw c.in-Ok-None.field-0-is at (c.in-Ok-None.ensures h past s few))

pub returns-in-Ok-Some-clause-heard : goal.returns-in-Ok-Some-clause-heard
returns-in-Ok-Some-clause-heard c h past s few same =
    let stop : Stop = record { row = c.row_of-row.result; rule = c.in-Ok-Some.rule } in
    let tells = c.told_on-told.ensures 18446744073709551615 h past None s in
    heard_break h past c.args.line c.args.selection.now c.args.event.now c.feed.new.checker stop c.args.collected.now
    (rw c.in-Ok-Some.field-0-is at (c.in-Ok-Some.ensures h past s few))
    (c.row_of-row.ensures 18446744073709551615 h past None c.args.selection.now s same.left_out same.values (tells ∙ rw same.values refl)) same
