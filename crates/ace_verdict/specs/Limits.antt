-- How much a trace may have.
use Rattle.std.specs.Prelude.{◌≤◌, Option, IfSome}
use Rattle.ace_account.specs.declared.listener.Account.{Account}
use Rattle.ace_check.specs.Promises.{most_lines}
use Rattle.ace_grammar.specs.Reading.{most_counted, most_events}
use Rattle.ace_verdict.specs.declared.limits.Limits.{Limits}

-- the limits of a trace, where no others are asked for
abbrev pub trace_limits : Limits
trace_limits = record { events = most_events; lines = most_lines }

-- a trace of as many events can be followed, for this account or for none: its lines have numbers,
-- and no account is given of more events than a trace has where no other limit is asked for
abbrev pub CanFollow : Option Account → Limits → Type 0
CanFollow asked limits =
    (limits.events ≤ most_counted) × IfSome asked (λ account. limits.events ≤ most_events)
