-- How a trace is followed event by event, and what its events show is counted.
use Rattle.std.specs.Prelude.{◌≡◌, ℕ, false, List, [], ◌∷◌, Option, None, IfNone, IfSome, length}
use Rattle.ace_check.specs.Promises.{goes_over_within}
use Rattle.ace_check.specs.Run.{StandsWithin}
use Rattle.ace_check.specs.declared.checker.Checker.{Checker}
use Rattle.ace_cover.specs.Counts.{counts}
use Rattle.ace_event.specs.declared.event.Event.{Event}
use Rattle.ace_event.specs.declared.header.Header.{Header}
use Rattle.ace_model.specs.Accepted.{least_broken}
use Rattle.ace_model.specs.Trace.{Trace}
use Rattle.ace_points.specs.declared.point.Point.{Point}
use Rattle.ace_verdict.specs.Progress.{StandsAt, StopsAt}
use Rattle.ace_verdict.specs.declared.limits.Limits.{Limits}
use Rattle.ace_verdict.specs.declared.verdict.Verdict.{Verdict}

-- The checker of so many lines has heard a trace, which is fine, and the hits are the counts of its
-- events.
abbrev pub HasCounted : ℕ → Checker → Header → Trace → List Point → List ℕ → Type 0
HasCounted lines c h past points hits =
    StandsWithin lines c h past None × (hits ≡ counts h past points)

-- One event more was heard, which is fine, and was counted; or the event ended the check, and that
-- is the verdict.
pub record HasHeard (lines : ℕ) (c : Checker) (h : Header) (past : Trace)
    (e : Event) (points : List Point) (hits : List ℕ)
    (stop : Option Verdict) : Type 0 where
  pub fine : IfNone stop ((least_broken h past e ≡ None) × (goes_over_within lines past e ≡ false))
  pub counted : IfNone stop (HasCounted lines c h (e ∷ past) points hits)
  pub stops : IfSome stop (StopsAt lines h past e)

-- Since nothing but a header was read, so many events were read, heard and counted, each of them
-- fine.
abbrev pub HasCome : Limits → Checker → ℕ → Header → List Point
    → List ℕ → Option (List ℕ) → Option (List ℕ) → Type 0
HasCome limits c count h points hits start left =
    (past : Trace) × HasCounted limits.lines c h past points hits × (count ≡ length past)
    × ((told : Option (List ℕ)) → StandsAt limits.lines told h [] start
    → StandsAt limits.lines told h past left)
