use Rattle.std.proofs.Common.{length}
use Rattle.ace_explain_json.proofs.places.+push_states.Given as goal

-- the ports that are left
abbrev pub decreases-push_states : goal.decreases-push_states
decreases-push_states l = length l.ports.now
