-- The lines that come to a port by its reads and stores under way.
use Rattle.std.specs.Prelude.{ℕ, List, slice_get, unwrap_or}
use Rattle.ace_event.specs.declared.line.Line.{Line}
use Rattle.ace_model.specs.Copies.{zero_line}

-- the line under the identifier
abbrev pub line_under : List Line → ℕ → Line
line_under arriving i = unwrap_or (slice_get arriving i) zero_line
