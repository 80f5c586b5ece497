-- How a trace is followed event by event to its explanation.
use Rattle.std.specs.Prelude.{◌≡◌, ℕ, Bool, false, if◌then◌else◌, List, [], ◌∷◌, Option, None, Some, IfNone, IfSome, length}
use Rattle.ace_before.specs.Looks.{before_event}
use Rattle.ace_check.specs.Promises.{goes_over_within}
use Rattle.ace_check.specs.Run.{StandsWithin}
use Rattle.ace_event.specs.declared.event.Event.{Event}
use Rattle.ace_event.specs.declared.header.Header.{Header}
use Rattle.ace_expected.specs.Expected.{expectation}
use Rattle.ace_clauses.specs.Clauses.{clause_of}
use Rattle.ace_explain.specs.LastLoads.{LoadsStand}
use Rattle.ace_explanation.specs.Explanations.{IsOther, verdict_of}
use Rattle.ace_explanation.specs.declared.explanation.Explanation.{Explanation}
use Rattle.ace_explanation.specs.declared.explanation.Explanation.TheVariants.{Refused, Malformed, Accepted, Other}
use Rattle.ace_explanation.specs.declared.listener.Listener.{Listener}
use Rattle.ace_journal.specs.Journals.{IsLed, JournalStands}
use Rattle.ace_model.specs.Accepted.{least_broken}
use Rattle.ace_model.specs.Trace.{Trace}
use Rattle.ace_origins.specs.Origins.{IsOriginOf}
use Rattle.ace_since.specs.Kept.{SinceStands}
use Rattle.ace_verdict.specs.Progress.{StandsAt, StopsAt}
use Rattle.ace_verdict.specs.declared.limits.Limits.{Limits}

-- Where the event that ends the check breaks a rule, it is the one that is told, with its header;
-- the clause is the first of the rule that is false; and what this expects and got, where the word
-- that it got stands, what there is of its line before it, and what led to it are told as well.
abbrev pub BreaksAt : Header → Trace → Event → Explanation → Type 0
BreaksAt h past e (Refused r) =
    (r.header ≡ h) × (r.event ≡ e) × (clause_of h past e r.rule ≡ Some r.letter)
    × (r.expected ≡ expectation h past e r.rule r.letter)
    × IsOriginOf h past e r.rule r.letter r.origin × (r.before ≡ before_event h past e)
    × IsLed h past e r.led
BreaksAt h past e (Malformed b) = ⊥
BreaksAt h past e (Accepted events outstanding) = ⊥
BreaksAt h past e (Other v) = IsOther v

-- The listener has heard a trace, which is fine: its checker of so many lines stands for it, and so
-- do the loads, the journal, and since when the lines are as they are.
abbrev pub HasFollowed : ℕ → Listener → Header → Trace → Type 0
HasFollowed lines l h past =
    StandsWithin lines l.checker h past None × LoadsStand past l.loads
    × JournalStands h past l.journal × SinceStands h past l.since

-- The listener, of so many lines, which stood for a trace, has heard one event more, which is fine,
-- and stands for the longer trace; or the event ended the check, and that is explained.
pub record HasHeard (lines : ℕ) (new : Listener) (h : Header) (past : Trace) (e : Event)
    (stop : Option Explanation) : Type 0 where
  pub fine : IfNone stop ((least_broken h past e ≡ None)
      × (goes_over_within lines past e ≡ false))
  pub stands : IfNone stop (HasFollowed lines new h (e ∷ past))
  pub stops : IfSome stop (λ x. StopsAt lines h past e (verdict_of x))
  pub breaks : IfSome stop (BreaksAt h past e)

-- what is told of an event, unless the check goes on
abbrev pub told_unless : Bool → Explanation → Option Explanation
told_unless goes_on x = if goes_on then None else Some x

-- Since nothing but a header was read, so many events were read and heard, each of them fine.
abbrev pub HasCome : Limits → Listener → ℕ → Header → Option (List ℕ) → Option (List ℕ) → Type 0
HasCome limits c count h start left =
    (past : Trace) × HasFollowed limits.lines c h past × (count ≡ length past)
    × ((told : Option (List ℕ)) → StandsAt limits.lines told h [] start
    → StandsAt limits.lines told h past left)
