-- What all ports do, for all operations.
use Rattle.std.proofs.Common.{◌≡◌, ℕ, ◌*◌, ◌≤◌, Bool, ◌==◌, List, [], ◌∷◌, length, map, filter, refl, inl, inr, arith}
use Rattle.std.proofs.lemmas.Bool.{cases_Bool}
use Rattle.std.proofs.lemmas.List.{length-map}
use Rattle.ace_event.specs.declared.event.Event.{Event}
use Rattle.ace_model.specs.declared.plans.PlanOp.{PlanOp}
use Rattle.ace_model.specs.Trace.{Trace}
use Rattle.ace_model.specs.OrderRules.{retired}
use Rattle.ace_model.specs.Plans.{Plan}
use Rattle.ace_runs.specs.Operations.{operations_of}
use Rattle.ace_runs.specs.Segments.{segment, silent_moves}
use Rattle.ace_runs.specs.Follows.{FollowsSoFar}
use Rattle.ace_runs.specs.Lean.{IsLean}
use Rattle.ace_runs.specs.Counts.{counted, issues_for_operation, is_silent}
use Rattle.ace_runs.proofs.Few.Sums.{times, each_bounds}
use Rattle.ace_runs.proofs.Few.Keys.{keys_of, all-keys, one-key}
use Rattle.ace_runs.proofs.Few.Paces.{paced_whole}
use Rattle.ace_runs.proofs.Few.Ports.{port_or_zero, at_port, three-each, two-each}

-- the ports of the operations
operations-port : (p : ℕ) (os : List PlanOp) → times p (map (λ o. o.port) os) ≡ length (filter (λ o. o.port == p) os)
operations-port p [] = refl
operations-port p (o ∷ os) =
    let rest = operations-port p os in
    elim (cases_Bool (o.port == p)) [ inl t ↦ rw t (omega (arith, rest)) | inr f ↦ rw f rest ]

port-operations : (plan : Plan) (p : ℕ) → times p (map (λ o. o.port) plan.operations) ≡ length (operations_of plan p)
port-operations plan p = rw (length-map (filter (λ (o : PlanOp). o.port == p) plan.operations) (λ (o : PlanOp). o.op)) (operations-port p plan.operations)

-- where it is so for each port, it is so for all
pub for-all : (k : ℕ) (test : Event → Bool) (plan : Plan) (past : Trace) → ((p : ℕ) → counted (at_port test p) past ≤ length (operations_of plan p) * k)
    → counted test past ≤ length plan.operations * k
for-all k test plan past each =
    let all = each_bounds k (keys_of port_or_zero test past) (map (λ o. o.port) plan.operations)
    (λ p. rw (one-key port_or_zero test p past, port-operations plan p) (each p)) in
    rw (all-keys port_or_zero test past, length-map plan.operations (λ (o : PlanOp). o.port)) at all

pub three-for-each : (plan : Plan) (past : Trace) → FollowsSoFar plan past → IsLean plan past → counted issues_for_operation past ≤ length plan.operations * 3
three-for-each plan past f l =
    for-all 3 issues_for_operation plan past
    (λ p. paced_whole 3 (counted (at_port issues_for_operation p) past) (length (segment past p)) (retired past p) (length (operations_of plan p)) (three-each plan past p f l))

pub two-for-each : (plan : Plan) (past : Trace) → FollowsSoFar plan past → IsLean plan past → counted is_silent past ≤ length plan.operations * 2
two-for-each plan past f l =
    for-all 2 is_silent plan past
    (λ p. paced_whole 2 (counted (at_port is_silent p) past) (silent_moves past p) (retired past p) (length (operations_of plan p)) (two-each plan past p f l))
