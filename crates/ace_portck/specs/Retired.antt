-- What the count of the operations of a port says of a trace.
use Rattle.std.specs.Prelude.{ℕ, ◌≡◌}
use Rattle.ace_model.specs.OrderRules.{retired}
use Rattle.ace_model.specs.Trace.{Trace}
use Rattle.ace_portck.specs.declared.retired.RetiredCount.{RetiredCount}

-- as many operations of the port retired
pub record RetiredStand (past : Trace) (p : ℕ) (s : RetiredCount) : Type 0 where
  pub next_is : s.next ≡ retired past p
