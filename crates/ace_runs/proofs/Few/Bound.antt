-- At most 256 events for each operation of the plan.
use Rattle.std.proofs.Common.{◌≡◌, ◌+◌, ◌*◌, ◌≤◌, length, arith, mul-le-mul_right}
use Rattle.ace_event.specs.declared.header.Header.{Header}
use Rattle.ace_model.specs.Accepted.{IsAccepted}
use Rattle.ace_model.specs.Trace.{Trace}
use Rattle.ace_model.specs.Plans.{Plan, IsRight}
use Rattle.ace_runs.specs.Acts.{is_load_or_store}
use Rattle.ace_runs.specs.Follows.{FollowsSoFar}
use Rattle.ace_runs.specs.Lean.{IsLean}
use Rattle.ace_runs.specs.Counts.{ace_ports, counted, issues, issues_for_operation, issues_completion, issues_granted, issues_part, is_grant}
use Rattle.ace_runs.proofs.Few.Operations.{three-for-each, two-for-each}
use Rattle.ace_runs.proofs.Few.Acts.{two-acts-for-each, one-for-each}
use Rattle.ace_runs.proofs.Few.Transactions.{both-channels, grants-few, memory-writes-few, responses-few}
use Rattle.ace_runs.proofs.Few.Queues.{answers-few, read-acknowledges-few, write-acknowledges-few}
use Rattle.ace_runs.proofs.Few.Transfers.{last-transfers-few}
use Rattle.ace_runs.proofs.Few.EarlierTransfers.{earlier-transfers-few, transfers-split}
use Rattle.ace_runs.proofs.Few.Beats.{write-beats-few, snoop-beats-few}
use Rattle.ace_runs.proofs.Few.AcePorts.{few-aces}
use Rattle.ace_runs.proofs.Few.LineSnoops.{line-snoops-few}
use Rattle.ace_runs.proofs.Few.Parts.{forwarded-few}
use Rattle.ace_runs.proofs.Few.Completions.{completed-few, completions-few}
use Rattle.ace_runs.proofs.Few.Sorts.{issues-split, granted-and-parts, parts-and-accesses, reads-and-writes, snoops-split, none-opens}
use Rattle.ace_runs.proofs.Few.Whole.{of_ports, of_snoops, of_lines, all-sorts}

-- the ports: seven events for each transaction, three for a DVM Complete
ports-few : (h : Header) (past : Trace) → IsAccepted h past → of_ports past ≤ counted issues_for_operation past * 7 + counted issues_completion past * 3
ports-few h past a =
    let split = issues-split past in
    let both = both-channels past in
    let apart = reads-and-writes past in
    let transfers = transfers-split past in
    let last = last-transfers-few h past a in
    let earlier = earlier-transfers-few h past a in
    let beats = write-beats-few h past a in
    let responses = responses-few h past a in
    let read_ends = read-acknowledges-few h past a in
    let write_ends = write-acknowledges-few h past a in
    omega (arith, split, both, apart, transfers, last, earlier, beats, responses, read_ends, write_ends)

-- the snoops of eight ACE ports, with their answers and data, and what the interconnect does else
snoops-few : (h : Header) (past : Trace) → length (ace_ports h) ≤ 8 → IsAccepted h past
    → of_snoops past ≤ counted issues_granted past * 49 + counted issues_part past * 54 + counted issues past
snoops-few h past eight a =
    let split = snoops-split h past a in
    let lines = line-snoops-few h past a in
    let parts = forwarded-few h past a in
    let completed = completed-few h past a in
    let answers = answers-few h past a in
    let beats = snoop-beats-few h past a in
    let grants = grants-few h past a in
    let writes = memory-writes-few h past a in
    let all_lines : length (ace_ports h) * counted is_grant past ≤ 8 * counted is_grant past = mul-le-mul_right (counted is_grant past) eight in
    let all_parts : length (ace_ports h) * counted issues_part past ≤ 8 * counted issues_part past = mul-le-mul_right (counted issues_part past) eight in
    omega (arith, split, lines, parts, completed, answers, beats, grants, writes, all_lines, all_parts)

lines-few : (plan : Plan) (past : Trace) → plan.header.version ≡ 1 → IsAccepted plan.header past → FollowsSoFar plan past → IsLean plan past
    → of_lines past ≤ length plan.operations * 3 + counted is_load_or_store past
lines-few plan past first a f l =
    let silent = two-for-each plan past f l in
    let retired = one-for-each plan past f in
    let none = none-opens plan.header past first a in
    omega (arith, silent, retired, none)

pub few-events : (plan : Plan) (past : Trace) → IsRight plan → IsAccepted plan.header past → FollowsSoFar plan past → IsLean plan past
    → length past ≤ length plan.operations * 256
few-events plan past right a f l =
    let h = plan.header in
    let eight = few-aces h right.header right.version in
    let all = all-sorts past in
    let ports = ports-few h past a in
    let snoops = snoops-few h past eight a in
    let lines = lines-few plan past right.version a f l in
    let split = issues-split past in
    let three = three-for-each plan past f l in
    let acts = two-acts-for-each plan past f in
    let apart = granted-and-parts past in
    let accesses = parts-and-accesses past in
    let completions = completions-few h past a in
    let all_parts : length (ace_ports h) * counted issues_part past ≤ 8 * counted issues_part past = mul-le-mul_right (counted issues_part past) eight in
    omega (arith, all, ports, snoops, lines, split, three, acts, apart, accesses, completions, all_parts)
