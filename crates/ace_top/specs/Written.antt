-- What the commands that write a trace of a trace answer.
use Rattle.std.specs.Prelude.{◌≡◌, ℕ, List, Option}
use Rattle.ace_convert.specs.declared.conversion.Conversion.{Conversion}
use Rattle.ace_convert.specs.declared.end.TraceEnd.{TraceEnd}
use Rattle.ace_convert.specs.Converted.{IsConverted}
use Rattle.ace_top.specs.declared.answer.Answer.{Answer}
use Rattle.ace_top.specs.Results.{end_answer}

-- The answer to these bytes, of which these are left, in this conversion, and the text that is
-- written: as the reading of the bytes ends. Want of memory may take its place, and then nothing is
-- written.
abbrev pub IsWritten : Conversion → List ℕ → Option (List ℕ) → Answer → List ℕ → Type 0
IsWritten conversion bytes left answer text =
    (end : TraceEnd) × (answer ≡ end_answer end) × IsConverted conversion bytes left end text
