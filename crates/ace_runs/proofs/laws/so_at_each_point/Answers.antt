use Rattle.ace_model.specs.Accepted.{rules}
use Rattle.ace_runs.specs.Follows.{obeys}
use Rattle.ace_runs.specs.Lean.{stays_lean}
use Rattle.ace_runs.proofs.Accepting.{accepted-before}
use Rattle.ace_runs.proofs.SoFar.{before-burst}
use Rattle.ace_runs.proofs.laws.so_at_each_point.Goals as goal

pub returns-clause-accepted : goal.returns-clause-accepted
returns-clause-accepted c = accepted-before rules

pub returns-clause-follows : goal.returns-clause-follows
returns-clause-follows c plan burst past s = before-burst (obeys plan) burst past s

pub returns-clause-lean : goal.returns-clause-lean
returns-clause-lean c plan burst past s = before-burst (stays_lean plan) burst past s
