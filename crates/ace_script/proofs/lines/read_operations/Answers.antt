use Rattle.std.proofs.Common.{rules, ap, Ok, ◌∙◌}
use Rattle.ace_script.proofs.OperationReads.{script_further, text_further, nothing_more}
use Rattle.ace_script.proofs.lines.read_operations.Goals as goal

pub operations-preserved : goal.operations-preserved
operations-preserved g c =
    let more = c.read_next.ensures.more (c.in-Ok-true.is ∙ ap Ok c.in-Ok-true.field-0-test) in
    record {
      no_room = search rules;
      script = script_further _ _ _ _ more c.operations.invariant.script;
      same_source = search rules;
      text = λ bytes t. text_further _ _ bytes _ _ more (c.operations.invariant.text bytes t);
      faults = search rules;
    }

pub returns-in-Ok-false-clause-read : goal.returns-in-Ok-false-clause-read
returns-in-Ok-false-clause-read g c bytes t =
    let told = c.in-Ok-false.is ∙ ap Ok c.in-Ok-false.field-0-test in
    nothing_more _ _ bytes _ _ (c.read_next.ensures.ended told) (c.read_next.ensures.kept told) (c.operations.invariant.text bytes t)
