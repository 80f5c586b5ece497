-- The text of a malformed line.
use Rattle.std.specs.Prelude.{ℕ, List, take}
use Rattle.ace_malformed.specs.declared.bad_line.BadLine.{BadLine}
use Rattle.ace_malformed.specs.declared.line_text.LineText.{LineText}

-- its bytes, without a line feed
abbrev pub text_of : LineText → List ℕ
text_of t = take t.len t.bytes

abbrev pub line_of : BadLine → List ℕ
line_of b = text_of b.line
