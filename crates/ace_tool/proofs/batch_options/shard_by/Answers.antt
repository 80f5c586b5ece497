use Rattle.ace_tool.proofs.BatchNumbers.{shard_goal}
use Rattle.ace_tool.proofs.batch_options.shard_by.Goals as goal

pub returns-in-Some-number_of : goal.returns-in-Some-number_of
returns-in-Some-number_of c =
    shard_goal c.args.word.now c.args.other.now c.in-Some.part c.in-Some-number_of.parts c.shard_in.result c.in-Some.ensures
    c.in-Some-number_of.ensures c.shard_in.ensures.none c.shard_in.ensures.some
