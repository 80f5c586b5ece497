use Rattle.std.proofs.Common.{◌≡◌, ℕ, take}
use Rattle.std.specs.List.{list_any}
use Rattle.ace_model.specs.Plans.{Plan}
use Rattle.ace_model.specs.Trace.{Trace}
use Rattle.ace_master_state.specs.Kept.{KeptStands}
use Rattle.ace_master_state.specs.Sought.{is_sought}
use Rattle.ace_master_state.proofs.kept.Kept.has.Given as goal

-- one of those so far is found
abbrev pub invariant-loop-x : goal.invariant-loop-x
invariant-loop-x l =
    (plan : Plan) (past : Trace) (p : ℕ) → KeptStands plan past p l.self → l.found ≡ list_any (is_sought plan.header past l.sought) (take l.x-index l.x-items)
