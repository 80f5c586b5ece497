use Rattle.ace_check.proofs.checker.Checker.ports.Goals as goal

pub returns : goal.returns
returns c = λ most h past b s. s.tell.ports
