-- What has heard a trace, for an account of it.
use Rattle.std.specs.Prelude.{ℕ, Option, None}
use Rattle.std.specs.List.{AllByRecursion}
use Rattle.ace_event.specs.declared.event.Event.{Event}
use Rattle.ace_event.specs.Range.{FitsFields}
use Rattle.ace_event.specs.declared.header.Header.{Header}
use Rattle.ace_model.specs.Accepted.{IsAccepted}
use Rattle.ace_model.specs.Trace.{Trace}
use Rattle.ace_cert_make.specs.Stands as making
use Rattle.ace_cert_make.specs.declared.maker.Maker.{Maker}
use Rattle.ace_report.specs.Next as next
use Rattle.ace_report.specs.Stands as reporting
use Rattle.ace_account.specs.declared.listener.Account.{Account}
use Rattle.ace_account.specs.declared.listener.Account.TheVariants as account
use Rattle.ace_account.specs.declared.listener.Listener.{Listener}
use Rattle.ace_account.specs.declared.listener.Listener.TheVariants.{Report, Order}

-- the account that is asked of it
abbrev pub account_of : Listener → Account
account_of (Report report) = account.Report
account_of (Order maker) = account.Order

-- what makes a certificate has heard this trace, which is accepted, of events that a program can
-- hold
pub record IsOrdered (maker : Maker) (h : Header) (past : Trace) : Type 0 where
  pub made : making.Stands maker past
  pub accepted : IsAccepted h past
  pub fits : AllByRecursion FitsFields past

-- it has heard this trace, which is accepted
abbrev pub Stands : Listener → Header → Trace → Type 0
Stands (Report report) h past = reporting.Stands report h past
Stands (Order maker) h past = IsOrdered maker h past

-- the line of whose memory it has to be told with an event
abbrev pub wanted_line : Listener → Header → Trace → Event → Option ℕ
wanted_line (Report report) h past e = next.wanted_line h past e
wanted_line (Order maker) h past e = None
