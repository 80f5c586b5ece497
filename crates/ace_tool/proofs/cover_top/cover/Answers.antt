use Rattle.ace_tool.proofs.CoverDone.{no_memory_for_words}
use Rattle.ace_tool.proofs.cover_top.cover.Goals as goal

pub returns-in-Err-cover_call-clause-answer : goal.returns-in-Err-cover_call-clause-answer
returns-in-Err-cover_call-clause-answer g c fine =
    no_memory_for_words _ _ _ _ _ _ c.note-in-Err-cover_call.result (c.note-in-Err-cover_call.ensures.status fine)
    (c.note-in-Err-cover_call.ensures.given fine)
