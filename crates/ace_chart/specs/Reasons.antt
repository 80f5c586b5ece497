-- The events by which another one breaks a rule, as far as a chart tells: the issue of the
-- transaction that it belongs to, and the issue and the grant of the one that is granted then.
use Rattle.std.specs.Prelude.{ℕ, ◌+◌, ◌-◌, ◌++◌, ◌==◌, Bool, false, if◌then◌else◌, List, [], Option, Some, None, codes}
use Rattle.ace_chart.specs.Places.{width, y_of}
use Rattle.ace_chart.specs.declared.reasons.Reason.{Reason}
use Rattle.ace_chart.specs.declared.reasons.Reason.TheVariants.{Issue, GrantedIssue, Grant}
use Rattle.ace_chart.specs.declared.rows.Row.{Row}
use Rattle.ace_event.specs.declared.event.Event.{Event}
use Rattle.ace_event.specs.declared.event.Event.TheVariants.{G}
use Rattle.ace_model.specs.declared.transactions.Transaction.{Transaction}
use Rattle.ace_svg.specs.Elements.{line_element, words_element}

-- the event is the one that issues the transaction
abbrev pub is_issue : Row → Transaction → Bool
is_issue r x = r.number == x.place + 1

-- the same where there may be none
abbrev pub issues : Row → Option Transaction → Bool
issues r None = false
issues r (Some x) = is_issue r x

-- the event is a grant of the transaction
abbrev pub is_grant : Event → Option Transaction → Option Transaction → Bool
is_grant (G p c i) (Some served) (Some x) = served.place == x.place
is_grant _ _ _ = false

abbrev pub grants : Row → Option Transaction → Bool
grants r x = is_grant r.event r.serves x

-- why the second is marked above the first, which breaks a rule
abbrev pub reason_of : Row → Row → Option Reason
reason_of stop r =
    if issues r stop.serves then Some Issue
    else (if issues r stop.look.granted then Some GrantedIssue
    else (if grants r stop.look.granted then Some Grant else None))

abbrev pub reason_words : Reason → List ℕ
reason_words Issue = codes "its transaction"
reason_words GrantedIssue = codes "who has the line"
reason_words Grant = codes "the grant"

-- a triangle at each side of a row, and why at the right
unfoldable pub reason_mark : ℕ → ℕ → Reason → List ℕ
reason_mark ports row reason =
    line_element (codes "reason") (record { x = 100; y = y_of row })
    (record { x = 112; y = y_of row })
    ++ line_element (codes "reason") (record { x = width ports - 16; y = y_of row })
    (record { x = width ports - 28; y = y_of row })
    ++ words_element (codes "reason") (record { x = width ports - 32; y = y_of row + 4 })
    (reason_words reason)

-- the same if the event is marked
abbrev pub mark_of_reason : ℕ → ℕ → Option Reason → List ℕ
mark_of_reason ports row None = []
mark_of_reason ports row (Some reason) = reason_mark ports row reason

unfoldable pub reason_text : ℕ → ℕ → Option Row → Row → List ℕ
reason_text ports row None r = []
reason_text ports row (Some stop) r = mark_of_reason ports row (reason_of stop r)
