-- How the check of a trace came out.
use Rattle.std.specs.Prelude.{ℕ, ◌==◌, Bool, true, false, List, codes}
use Rattle.ace_batch.specs.declared.outcome.Outcome.{Outcome}
use Rattle.ace_batch.specs.declared.outcome.Outcome.TheVariants.{Accepted, Refused, Malformed, Unfinished, Limited, Unreadable, NoMemory}

-- the status of a trace that came out so
abbrev pub status_of : Outcome → ℕ
status_of Accepted = 0
status_of Refused = 1
status_of Malformed = 3
status_of Unreadable = 4
status_of Limited = 6
status_of NoMemory = 7
status_of Unfinished = 8

abbrev pub is_accepted : Outcome → Bool
is_accepted outcome = status_of outcome == 0

-- the word at the head of its line, in six columns
abbrev pub word_of : Outcome → List ℕ
word_of Accepted = codes "ok    "
word_of Refused = codes "FAIL  "
word_of Malformed = codes "BAD   "
word_of Unfinished = codes "CUT   "
word_of Limited = codes "LIMIT "
word_of Unreadable = codes "ERROR "
word_of NoMemory = codes "ERROR "

-- what it is called in a list of results
abbrev pub verdict_of : Outcome → List ℕ
verdict_of Accepted = codes "accepted"
verdict_of Refused = codes "refused"
verdict_of Malformed = codes "malformed"
verdict_of Unfinished = codes "unfinished"
verdict_of Limited = codes "limit"
verdict_of Unreadable = codes "unreadable"
verdict_of NoMemory = codes "memory"

-- its signature is the name of a clause or of a reason, which stands before the message
abbrev pub has_name : Outcome → Bool
has_name Refused = true
has_name Malformed = true
has_name outcome = false

-- the trace, as it was recorded, fails the check: it isn't that something hindered the check
abbrev pub is_failure : Outcome → Bool
is_failure Refused = true
is_failure Malformed = true
is_failure Unfinished = true
is_failure outcome = false
