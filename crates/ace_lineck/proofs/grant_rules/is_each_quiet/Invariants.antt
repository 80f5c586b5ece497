use Rattle.std.proofs.Common.{◌≡◌, ◌<◌, ℕ, true}
use Rattle.ace_lineck.proofs.Terms.{is_invalid, stage_at, is_settled, state_at}
use Rattle.ace_lineck.proofs.grant_rules.is_each_quiet.Given as goal

abbrev pub invariant-loop-port : goal.invariant-loop-port
invariant-loop-port l = l.all ≡ true → (q : ℕ) → q < l.port → is_settled (stage_at l.stages q) (is_invalid (state_at l.states q)) ≡ true
