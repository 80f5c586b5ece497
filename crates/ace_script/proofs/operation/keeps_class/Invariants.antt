use Rattle.std.proofs.Common.{◌≡◌, true, not, take}
use Rattle.std.specs.List.{list_all}
use Rattle.ace_script.proofs.Classes.{name_one_line}
use Rattle.ace_script.proofs.operation.keeps_class.Given as goal

-- none so far names the line
abbrev pub invariant-loop-k : goal.invariant-loop-k
invariant-loop-k l = list_all (λ other. not (name_one_line l.op other.op)) (take l.k l.before) ≡ true
