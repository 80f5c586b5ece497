-- The text that tells what there is of a line before an event.
use Rattle.std.specs.Prelude.{ℕ, ◌++◌, ◌&&◌, ◌==◌, Bool, if◌then◌else◌, List, codes, decimal, is_none}
use Rattle.std.specs.List.{list_all}
use Rattle.ace_before.specs.Rows.{grant_row, is_idle, memory_row, passed_row, port_rows}
use Rattle.ace_before.specs.declared.before.LineBefore.{LineBefore}
use Rattle.ace_event.specs.Text.{hex_text}
use Rattle.ace_event.specs.declared.header.Header.{Header}
use Rattle.ace_event.specs.declared.line.Line.{Line}
use Rattle.ace_side_facts.specs.declared.facts.SideFacts.{SideFacts}

abbrev pub is_zero : Line → Bool
is_zero line = list_all (λ (word : ℕ). word == 0) line.words

-- no port holds the line or has anything to do with it, none is granted it, and memory has zeros
unfoldable pub is_untouched : LineBefore → Bool
is_untouched b = list_all is_idle b.ports && is_none b.granted && is_zero b.memory

-- before the event of this number
unfoldable pub before_start : List ℕ
before_start = codes "  Before event "

unfoldable pub before_words : ℕ → List ℕ
before_words index = before_start ++ decimal index

unfoldable pub untouched_start : List ℕ
untouched_start = codes " no port holds line "

unfoldable pub untouched_end : List ℕ
untouched_end = codes "; it has no grant, and memory has zeros there.\n"

unfoldable pub untouched_line : ℕ → ℕ → List ℕ
untouched_line index line =
    before_words index ++ untouched_start ++ hex_text 8 line ++ untouched_end

unfoldable pub head_line : ℕ → ℕ → List ℕ
head_line index line = before_words index ++ codes ", line " ++ hex_text 8 line ++ codes "\n"

unfoldable pub rows : SideFacts → Header → LineBefore → List ℕ
rows f h b = port_rows f h 0 b.ports ++ memory_row b ++ passed_row b.passed ++ grant_row b

-- what is told of the line before the event of this number
-- with the names of ports that are known
unfoldable pub line_text : SideFacts → ℕ → Header → LineBefore → List ℕ
line_text f index h b =
    if is_untouched b then untouched_line index b.line else head_line index b.line ++ rows f h b
