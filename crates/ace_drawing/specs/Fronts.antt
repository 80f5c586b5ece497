-- The events at the front of a trace.
use Rattle.std.specs.Prelude.{◌≡◌, ℕ, List, length}
use Rattle.std.specs.List.{AllByRecursion}
use Rattle.ace_event.specs.Text.{trace_text}
use Rattle.ace_event.specs.declared.event.Event.{Event}
use Rattle.ace_event.specs.declared.header.Header.{Header}
use Rattle.ace_grammar.specs.Lines.{BeginsWith}
use Rattle.ace_grammar.specs.Reading.{IsReadable, IsReadableHeader}

-- The bytes begin with a trace of so many events, oldest first: these, behind this header.
pub record IsFront (bytes : List ℕ) (count : ℕ) (h : Header) (events : List Event) : Type 0 where
  pub header_is_readable : IsReadableHeader h
  pub events_are_readable : AllByRecursion (IsReadable h.version) events
  pub so_many : length events ≡ count
  pub text : BeginsWith bytes (trace_text h events)
