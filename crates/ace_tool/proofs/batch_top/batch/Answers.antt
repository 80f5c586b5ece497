use Rattle.ace_tool.proofs.BatchDone.{no_memory_for_words}
use Rattle.ace_tool.proofs.batch_top.batch.Goals as goal

pub returns-in-Err-batch_call-clause-answer : goal.returns-in-Err-batch_call-clause-answer
returns-in-Err-batch_call-clause-answer g c fine =
    no_memory_for_words _ _ _ _ _ _ _ _ _ _ c.note-in-Err-batch_call.result (c.note-in-Err-batch_call.ensures.status fine)
    (c.note-in-Err-batch_call.ensures.given fine)
