-- What follows a trace event by event.
use Rattle.std.specs.Prelude.{◌≡◌, ◌<◌, ◌∷◌, false, option_map, ℕ, List, Option, Some, None, Result, Ok, Err, IfNone, IfSome, [], length, reverse}
use Rattle.ace_event.specs.declared.event.Event.{Event}
use Rattle.ace_event.specs.declared.header.Header.{Header}
use Rattle.ace_io.specs.declared.outside.Source.{Ghosts}
use Rattle.ace_grammar.specs.Reader.{header_of, most_of}
use Rattle.ace_grammar.specs.Reading.{ReadsWithin, Whole}
use Rattle.ace_grammar.specs.declared.reader.Reader.{Reader}
use Rattle.ace_model.specs.Trace.{Trace}
use Rattle.ace_model.specs.Accepted.{IsAccepted, least_broken}
use Rattle.ace_check.specs.Promises.{goes_over_within}
use Rattle.ace_check.specs.Run as check
use Rattle.ace_check.specs.declared.checker.CheckErr.{CheckErr}
use Rattle.ace_check.specs.declared.checker.CheckErr.TheVariants as lacks
use Rattle.ace_check.specs.declared.checker.Step.{Step}
use Rattle.ace_check.specs.declared.checker.Step.TheVariants.{Fine, Broken}
use Rattle.ace_account.specs.Listeners as listening
use Rattle.ace_account.specs.declared.listener.Account.{Account}
use Rattle.ace_verdict.specs.declared.verdict.Verdict.{Verdict}
use Rattle.ace_verdict.specs.declared.verdict.Verdict.TheVariants.{Refused, LimitLines, NoMemory}
use Rattle.ace_verdict.specs.declared.follow.Follower.{Follower}
use Rattle.ace_verdict.specs.Limits.{CanFollow}
use Rattle.ace_verdict.specs.declared.limits.Limits.{Limits}
use Rattle.ace_verdict.specs.Progress.{IsStop, StandsAt, StopsAt}
use Rattle.ace_verdict.specs.Verdict.{IsVerdictWithin, first_stop_within}

-- the verdict that ends a check, where the checker doesn't say that an event is fine
abbrev pub fed_verdict : Result Step CheckErr → Option Verdict
fed_verdict (Ok Fine) = None
fed_verdict (Ok (Broken index rule)) = Some (Refused index rule)
fed_verdict (Err lacks.NoMemory) = Some NoMemory
fed_verdict (Err lacks.TooManyLines) = Some LimitLines

-- the account that is asked for
abbrev pub asked_of : Follower → Option Account
asked_of f = option_map listening.account_of f.listener

-- The follower has come to the end of an accepted trace: its checker, of so many lines, stands for
-- it, and what hears it has heard it, where an account is asked for. Nothing has ended the check.
pub record Follows (lines : ℕ) (f : Follower) (h : Header) (past : Trace) : Type 0 where
  pub checker : check.StandsWithin lines f.checker h past None
  pub listener : IfSome f.listener (λ l. listening.Stands l h past)
  pub accepted : IsAccepted h past
  pub goes_on : f.stop ≡ None

-- The follower has followed one event more, which is fine; or it ended the check, with its verdict.
pub record HasTaken (old : Follower) (event : Event) (new : Follower) : Type 0 where
  pub fine : (lines : ℕ) (h : Header) (past : Trace) → Follows lines old h past
      → IfNone new.stop ((least_broken h past event ≡ None)
      × (goes_over_within lines past event ≡ false))
  pub follows : (limits : Limits) (h : Header) (past : Trace) → Follows limits.lines old h past
      → CanFollow (asked_of old) limits → length past < limits.events
      → IfNone new.stop (Follows limits.lines new h (event ∷ past))
  pub stops : (lines : ℕ) (h : Header) (past : Trace) → Follows lines old h past
      → IfSome new.stop (StopsAt lines h past event)
  pub stop : IfSome new.stop IsStop
  pub same_account : asked_of new ≡ asked_of old

-- the follower with the verdict that ends its check, if one does
abbrev pub ended_by : Follower → Option Verdict → Follower
ended_by f stop = record { checker = f.checker; listener = f.listener; stop = stop }

-- The same, where nothing had ended the check before.
abbrev pub TakesOn : Follower → Event → Follower → Type 0
TakesOn old event new = (old.stop ≡ None) × HasTaken old event new

-- The follower and the reader, of the same limits, are at the start of a trace.
abbrev pub IsReady : {S : Type 0} {g : Ghosts S} → Limits → Follower → Reader S g → Type 0
IsReady limits f reader =
    CanFollow (asked_of f) limits × (most_of reader ≡ limits.events)
    × Follows limits.lines f (header_of reader) []

-- Since nothing but a header was read, so many events were read and followed, each of them fine.
abbrev pub HasCome : Limits → Follower → ℕ → Header → Option (List ℕ) → Option (List ℕ) → Type 0
HasCome limits f count h start left =
    (past : Trace) × Follows limits.lines f h past × (count ≡ length past)
    × ((told : Option (List ℕ)) → StandsAt limits.lines told h [] start
    → StandsAt limits.lines told h past left)

-- The same where nothing has ended the check; else its verdict is the verdict of the bytes.
abbrev pub HasComeTo : Limits → Option Verdict → Follower → ℕ → Header
    → Option (List ℕ) → Option (List ℕ) → Type 0
HasComeTo limits None f count h start left = HasCome limits f count h start left
HasComeTo limits (Some verdict) f count h start left =
    (told : Option (List ℕ)) → StandsAt limits.lines told h [] start
    → IfSome told (λ bytes. IsVerdictWithin limits bytes verdict)

-- The follower has come to the end of an accepted trace. Where the bytes are told, they are that
-- trace within the limits, and nothing ends its check before.
pub record HasFollowed (limits : Limits) (told : Option (List ℕ)) (f : Follower) : Type 0 where
  pub header : Header
  pub past : Trace
  pub follows : Follows limits.lines f header past
  pub unbroken : first_stop_within limits.lines header (reverse past) ≡ None
  pub reads : IfSome told (λ bytes. ReadsWithin limits.events bytes header (reverse past) Whole)
