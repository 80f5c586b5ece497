use Rattle.ace_model.specs.Accepted.{rules}
use Rattle.ace_runs.specs.Follows.{obeys}
use Rattle.ace_runs.specs.Lean.{stays_lean}
use Rattle.ace_runs.proofs.Accepting.{accepted-before}
use Rattle.ace_runs.proofs.SoFar.{before-burst}
use Rattle.ace_engine.proofs.laws.legal_at_each_point.Goals as goal

pub returns : goal.returns
returns c plan burst past legal = record {
  right = legal.right;
  accepted = accepted-before rules plan.header burst past legal.accepted;
  follows = before-burst (obeys plan) burst past legal.follows;
  lean = before-burst (stays_lean plan) burst past legal.lean;
}
