use Rattle.ace_tool.proofs.CoverDone.{memory_noted}
use Rattle.ace_tool.proofs.cover_top.note_stop.Goals as goal

pub returns-in-NoMemory : goal.returns-in-NoMemory
returns-in-NoMemory g c first before stops =
    memory_noted _ _ _ _ _ _ _ _ (rw c.in-NoMemory.is at stops) c.note.ensures.status c.note.ensures.given c.note.ensures.fault
