use Rattle.ace_check.proofs.checker.Checker.memory.Goals as goal

pub returns : goal.returns
returns c = λ most h past b s. c.memory.ensures (record { header = h; past = past }) s.tell.lines
