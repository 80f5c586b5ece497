use Rattle.std.proofs.Common.{◌≡◌, ℕ, ◌<◌, false, Some}
use Rattle.ace_event.specs.declared.header.Header.{Header}
use Rattle.ace_model.specs.Grants.{granted}
use Rattle.ace_model.specs.Trace.{Trace}
use Rattle.ace_check.specs.Shares.{SharesStand}
use Rattle.ace_lineck.specs.Stands.{place_on}
use Rattle.ace_home.specs.HeldUp.{is_left}
use Rattle.ace_home.proofs.home.Home.has_left.Given as goal

-- none of the ports so far is left
abbrev pub invariant-loop-port : goal.invariant-loop-port
invariant-loop-port l =
    (h : Header) (past : Trace) (q : ℕ) → SharesStand l.fn.self.shares h past → l.fn.place ≡ place_on l.fn.self.shares.lines (Some l.fn.line) → granted h past l.fn.line ≡ Some l.fn.x → q < l.port
    → is_left h past l.fn.line l.fn.x q ≡ false
