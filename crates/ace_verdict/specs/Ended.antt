-- What is open at the end of a trace.
use Rattle.std.specs.Prelude.{◌≡◌, ℕ, List, reverse}
use Rattle.std.specs.List.{AllByRecursion}
use Rattle.ace_event.specs.Text.{trace_text}
use Rattle.ace_event.specs.declared.event.Event.{Event}
use Rattle.ace_event.specs.declared.header.Header.{Header}
use Rattle.ace_grammar.specs.Reading.{IsReadable, IsReadableHeader}
use Rattle.ace_outstanding.specs.Outstanding.{outstanding_count}
use Rattle.ace_verdict.specs.declared.verdict.Verdict.{Verdict}
use Rattle.ace_verdict.specs.declared.verdict.Verdict.TheVariants.{Accepted}

-- The bytes are the text of a trace, at whose end so many transactions are outstanding.
abbrev pub LeavesOutstanding : List ℕ → ℕ → Type 0
LeavesOutstanding bytes count =
    (header : Header) × (events : List Event) × IsReadableHeader header
    × AllByRecursion (IsReadable header.version) events
    × (bytes ≡ trace_text header events) × (count ≡ outstanding_count header (reverse events))

-- So many are outstanding at the end of the trace that is accepted; of another none are told.
abbrev pub IsOutstanding : List ℕ → Verdict → ℕ → Type 0
IsOutstanding bytes (Accepted events) count = LeavesOutstanding bytes count
IsOutstanding bytes verdict count = count ≡ 0
