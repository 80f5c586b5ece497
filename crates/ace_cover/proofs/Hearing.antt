-- What the checker's answers to an event say.
use Rattle.std.proofs.Common.{◌≡◌, ℕ, true, List, ◌∷◌, None, Some}
use Rattle.ace_check.specs.Promises.{goes_over_within}
use Rattle.ace_check.specs.Run.{IsAnswerWithin, StandsWithin}
use Rattle.ace_check.specs.declared.checker.Checker.{Checker}
use Rattle.ace_check.specs.declared.checker.Step.TheVariants.{Fine, Broken}
use Rattle.ace_cover.specs.Counts.{counts}
use Rattle.ace_cover.specs.Following.{HasHeard}
use Rattle.ace_event.specs.declared.event.Event.{Event}
use Rattle.ace_event.specs.declared.header.Header.{Header}
use Rattle.ace_model.specs.Accepted.{least_broken}
use Rattle.ace_model.specs.Trace.{Trace}
use Rattle.ace_points.specs.declared.point.Point.{Point}
use Rattle.ace_verdict.specs.declared.verdict.Verdict.TheVariants.{Refused, NoMemory, LimitLines}

module _ (lines : ℕ) (c : Checker) (h : Header) (past : Trace) (e : Event) (points : List Point) (hits : List ℕ) where
  pub fine_heard : IsAnswerWithin lines h past e Fine → StandsWithin lines c h (e ∷ past) None → hits ≡ counts h (e ∷ past) points
      → HasHeard lines c h past e points hits None
  fine_heard a s n = record { fine = a; counted = (s, n); stops = tt }

  pub broken_heard : (index rule : ℕ) → IsAnswerWithin lines h past e (Broken index rule) → HasHeard lines c h past e points hits (Some (Refused index rule))
  broken_heard index rule a = record { fine = tt; counted = tt; stops = a }

  pub no_memory_heard : HasHeard lines c h past e points hits (Some NoMemory)
  no_memory_heard = record { fine = tt; counted = tt; stops = tt }

  pub over_heard : (least_broken h past e ≡ None) × (goes_over_within lines past e ≡ true) → HasHeard lines c h past e points hits (Some LimitLines)
  over_heard over = record { fine = tt; counted = tt; stops = over }

pub ruleset hearing = (fine_heard, broken_heard, no_memory_heard, over_heard)
