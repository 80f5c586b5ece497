use Rattle.ace_runs.specs.Follows.{obeys}
use Rattle.ace_runs.specs.Lean.{stays_lean}
use Rattle.ace_runs.proofs.SoFar.{each-computes, each-computed}
use Rattle.ace_runs.proofs.laws.tests_are_exact.Goals as goal

pub returns-clause-follows : goal.returns-clause-follows
returns-clause-follows c plan past = (each-computes (obeys plan) past, each-computed (obeys plan) past)

pub returns-clause-lean : goal.returns-clause-lean
returns-clause-lean c plan past = (each-computes (stays_lean plan) past, each-computed (stays_lean plan) past)
