use Rattle.ace_tool.proofs.explain.tell_no_room_line.Goals as goal

pub returns-in-Err-clause-part : goal.returns-in-Err-clause-part
returns-in-Err-clause-part g c = rw c.told_name.ensures at c.in-Err.ensures.part
