-- What was cut from the front of the bytes.
use Rattle.std.proofs.Common.{ℕ, List, Option, Some, None}
use Rattle.ace_grammar.proofs.FirstLines.Cut.{cut_line_is_bad, cut_line_is_none, no_line_at_end, other_line_is_bad}
use Rattle.ace_grammar.proofs.Readings.Taken.{cut_end, cut_front}
use Rattle.ace_grammar.specs.Reading.{IfTold}
use Rattle.ace_io.specs.Line.{CutsLine, HasNoLf}
use Rattle.ace_io.specs.declared.line_buf.LineEnd.{LineEnd}
use Rattle.ace_malformed.specs.Cut.{IsFirstCut}

-- a line that was cut is the first
pub first_cut : (old new : Option (List ℕ)) (line : List ℕ) (end : LineEnd) → HasNoLf line → CutsLine old line end new → IfTold old (IsFirstCut line)
first_cut None new line end clean cut = tt
first_cut (Some bytes) new line end clean cut = (clean, (end, new, cut))

pub ruleset lines = (cut_front, cut_line_is_none, first_cut, no_line_at_end)

pub ruleset cuts = (cut_end, first_cut, other_line_is_bad)
