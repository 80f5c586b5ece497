use Rattle.std.proofs.Common.{◌≡◌, ℕ, not, Some}
use Rattle.std.specs.List.{list_all}
use Rattle.ace_model.specs.declared.transactions.Transaction.{Transaction}
use Rattle.ace_model.specs.Grants.{granted, owes_answer, ports_below}
use Rattle.ace_portck.specs.Targets.{Recording}
use Rattle.ace_lineck.specs.Stands.{Stands, place_on}
use Rattle.ace_explain.proofs.line_looks.is_each_answered.Given as goal

abbrev pub invariant-loop-port : goal.invariant-loop-port
invariant-loop-port l =
    (r : Recording) (line : ℕ) (x : Transaction) → Stands l.lines r → l.place ≡ place_on l.lines (Some line) → granted r.header r.past line ≡ Some x
    → l.all ≡ list_all (λ q. not (owes_answer r.past q line)) (ports_below l.port)
