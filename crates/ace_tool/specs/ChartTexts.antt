-- The texts of `chart`.
use Rattle.std.specs.Prelude.{ℕ, ◌++◌, List, [], Option, None, Some, codes, decimal}
use Rattle.ace_chart.specs.Charts.{chart_text}
use Rattle.ace_chart.specs.declared.rows.Chart.{Chart}
use Rattle.ace_expected.specs.Texts.{expected_text, got_text}
use Rattle.ace_expected.specs.declared.wanted.Expectation.{Expectation}
use Rattle.ace_explanation.specs.Explanations.{verdict_of}
use Rattle.ace_explanation.specs.Refusals.{kept_part, title, wrong_part}
use Rattle.ace_explanation.specs.declared.explanation.Explanation.{Explanation}
use Rattle.ace_explanation.specs.declared.explanation.Explanation.TheVariants.{Refused}
use Rattle.ace_explanation.specs.declared.refusal.Refusal.{Refusal}
use Rattle.ace_pages.specs.Pages.{page_name}
use Rattle.ace_side_facts.specs.declared.facts.SideFacts.{SideFacts}
use Rattle.ace_tool.specs.Explaining.{told_name}
use Rattle.ace_tool.specs.Packing.{advice_of}
use Rattle.ace_explanation.specs.Texts.{verdict_text}
use Rattle.ace_tool.specs.Reports.{shown_name}
use Rattle.ace_tool.specs.declared.packing.Packing.{Packing}

abbrev pub chart_help : List ℕ
chart_help =
    codes "usage: acetool chart [OPTION].. [--] [FILE]\n\nDraws a sequence chart of one line of the trace, as SVG: the ports, the interconnect and memory, the\nmessages between them in their order, and beside them which port has the line in which state. Of a\nrefused trace it is the line of the refused event, up to that event, with what is wrong below it; of\nanother the first line.\n\n  -o FILE          the picture is written into FILE; else it is told\n  --line ADDRESS   the line of this address, in hexadecimal digits; `all` draws each event\n  --events A..B    of these the events from number A to number B alone\n  --around N       as --events from 20 before event N to 20 behind it\n  --port P,..      of these the events of these ports alone\n  --rows N         N rows at most before a refused event; else 400\n  --title TEXT     the picture is called so, and not as the file\n  --side FILE      the side file, which tells the times of events and the names of ports; else\n                   FILE.side where there is one\n  --no-side        none is read\n\nstatus: 0 it was drawn, 3 it or its side file is malformed, 4 unreadable, 6 it would have more rows,\n7 no memory; 5 an output failed; 2 these words are wrong\n"

-- what is wrong: the clause that is broken by its name
unfoldable pub wrong_words : Refusal → List ℕ
wrong_words r = page_name r.rule (Some r.letter) ++ wrong_part r.rule r.letter

-- and where that clause is kept, behind the title of its rule
unfoldable pub kept_words : Refusal → List ℕ
kept_words r = title r.rule ++ kept_part r.rule r.letter

-- both stand below a chart, of a trace that is refused
abbrev pub wrong_below : Explanation → List ℕ
wrong_below (Refused r) = wrong_words r
wrong_below x = []

abbrev pub kept_below : Explanation → List ℕ
kept_below (Refused r) = kept_words r
kept_below x = []

-- and what the clause expects and what it got: nothing where no value is right
abbrev pub expected_of : Option Expectation → List ℕ
expected_of None = []
expected_of (Some x) = expected_text x

abbrev pub got_of : Option Expectation → List ℕ
got_of None = []
got_of (Some x) = got_text x

abbrev pub expected_below : Explanation → List ℕ
expected_below (Refused r) = expected_of r.expected
expected_below x = []

abbrev pub got_below : Explanation → List ℕ
got_below (Refused r) = got_of r.expected
got_below x = []

-- what a picture is called: by the title that is asked for, or else by the name of the trace
abbrev pub heading_of : List ℕ → Option (List ℕ) → List ℕ
heading_of name None = told_name name
heading_of name (Some title) = title

-- the picture of the trace of this name: the chart under its heading and the verdict, with what its
-- side file tells
abbrev pub picture_text : List ℕ → Option (List ℕ) → Chart → Explanation → Option SideFacts
    → List ℕ
picture_text name title c x side =
    chart_text c (heading_of name title) (verdict_text (verdict_of x)) (wrong_below x)
    (kept_below x) (expected_below x) (got_below x) side

-- what is noted where the chart would have more rows than so many
abbrev pub rows_line : List ℕ → ℕ → List ℕ
rows_line name rows =
    told_name name
    ++ (codes ": more than " ++ (decimal rows
    ++ (codes " rows: choose by --line, --events or --port, or more rows by --rows" ++ codes "\n")))

-- where the trace is compressed
abbrev pub packed_to_draw : List ℕ → Packing → List ℕ
packed_to_draw name packing =
    told_name name ++ (codes ": " ++ (advice_of packing
    ++ (shown_name name ++ codes " | acetool chart -\n")))
