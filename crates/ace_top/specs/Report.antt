-- What `report` and `order` answer to the bytes of a trace.
use Rattle.std.specs.Prelude.{◌≡◌, ℕ, List, None, reverse}
use Rattle.ace_account.specs.Accounts as accounts
use Rattle.ace_account.specs.declared.listener.Account.{Account}
use Rattle.ace_event.specs.declared.header.Header.{Header}
use Rattle.ace_event.specs.declared.event.Event.{Event}
use Rattle.ace_grammar.specs.Reading.{Whole, Reads}
use Rattle.ace_verdict.specs.Verdict.{first_stop}
use Rattle.ace_top.specs.declared.answer.Answer.{Answer}
use Rattle.ace_top.specs.declared.answer.Answer.TheVariants.{Accepted, Reported}
use Rattle.ace_top.specs.Checked.{IsChecked}
use Rattle.ace_top.specs.Texts.{out_text_of}

-- The bytes are a whole trace, and nothing ends its check before.
abbrev pub AreAccepted : List ℕ → Header → List Event → Type 0
AreAccepted bytes header events =
    Reads bytes header events Whole × (first_stop header events ≡ None)

-- The bytes are such a trace, and the text is that account of it: its report, or the text of a
-- certificate of it.
abbrev pub ReportsTrace : Account → List ℕ → List ℕ → Type 0
ReportsTrace account bytes text = (header : Header) × (events : List Event)
    × AreAccepted bytes header events × accounts.IsAccount account header (reverse events) text

-- The answer to these bytes, and its text: that of `check`, but of an accepted trace the account
-- that is asked for.
abbrev pub IsReported : Account → List ℕ → Answer → List ℕ → Type 0
IsReported account bytes Reported text = ReportsTrace account bytes text
IsReported account bytes (Accepted events) text = ⊥
IsReported account bytes answer text = IsChecked bytes answer × (text ≡ out_text_of answer)
