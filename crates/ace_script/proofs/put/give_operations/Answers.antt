use Rattle.std.proofs.Common.{rules}
use Rattle.ace_script.proofs.Waiting.{part_of_all, one_more_waits, end_given, end_part}
use Rattle.ace_script.proofs.put.give_operations.Goals as goal

pub returns-in-Err-clause-part : goal.returns-in-Err-clause-part
returns-in-Err-clause-part g c before front w =
    part_of_all before _ front c.args.operations.now c.loop-o.o-index (c.in-Err.ensures.part before _ (c.loop-o.invariant.waiting before front w))

pub loop-o-preserved : goal.loop-o-preserved
loop-o-preserved g c = record {
  within = search rules;
  waiting = λ before front w.
      one_more_waits before _ front _ _ c.args.operations.now c.loop-o.o-index _ (search rules) (search rules) c.push_operation.ensures
      (c.in-Ok.ensures.kept before _ (c.loop-o.invariant.waiting before front w));
  faults = search rules;
}

pub returns-clause-given : goal.returns-clause-given
returns-clause-given g c =
    end_given c.give_over-2.result _ _ _ _ _ _ c.args.operations.now c.loop-o.o-index (search rules) c.loop-o.invariant.waiting c.give_over-2.ensures.kept c.give_over-2.ensures.room

pub returns-clause-part : goal.returns-clause-part
returns-clause-part g c =
    end_part c.give_over-2.result _ _ _ _ _ c.args.operations.now c.loop-o.o-index (search rules) c.loop-o.invariant.waiting c.give_over-2.ensures.part
