-- What is told of an event that breaks a rule.
use Rattle.std.specs.Prelude.{ℕ, ◌+◌, ◌++◌, ◌<◌, ◌^◌, Bool, if◌then◌else◌, List, [], ◌∷◌, map, take, Option, Some, None, codes, decimal}
use Rattle.ace_before.specs.Texts as before
use Rattle.ace_before.specs.declared.before.LineBefore.{LineBefore}
use Rattle.ace_clauses.specs.declared.letters.Letter.{Letter}
use Rattle.ace_event.specs.Ports.{IsHeader}
use Rattle.ace_event.specs.Range.{InRange}
use Rattle.ace_event.specs.Text.{event_text}
use Rattle.ace_event.specs.declared.header.Header.{Header}
use Rattle.ace_event_words.specs.Folding.{folded_text}
use Rattle.ace_expected.specs.Texts.{lines_text}
use Rattle.ace_expected.specs.declared.wanted.Expectation.{Expectation}
use Rattle.ace_explanation.specs.declared.refusal.Refusal.{Refusal}
use Rattle.ace_journal.specs.LedTexts.{event_words, led_text}
use Rattle.ace_journal.specs.SideTexts.{moment, note_text}
use Rattle.ace_journal.specs.declared.rows.Row.{Row}
use Rattle.ace_origins.specs.Texts.{origin_words}
use Rattle.ace_origins.specs.declared.origins.Origin.{Origin}
use Rattle.ace_pages.specs.Advice.{advice}
use Rattle.ace_pages.specs.Pages.{page_name}
use Rattle.ace_side_facts.specs.Facts.{fault_in}
use Rattle.ace_side_facts.specs.declared.facts.SideFacts.{SideFacts}
use Rattle.ace_words.specs.Breaks.{wrong_with}
use Rattle.ace_words.specs.Rules.{kept_where, rule_title}

-- The event has a line in a trace with its header, and that line a number.
pub record HasLine (r : Refusal) : Type 0 where
  pub header : IsHeader r.header
  pub event : InRange r.header.version r.event
  pub few : r.index + 2 < 2 ^ 64

-- what is wrong where the clause is broken, what the rule is called, and where the clause is kept
unfoldable pub wrong_sentence : ℕ → Letter → List ℕ
wrong_sentence rule letter = wrong_with rule letter

unfoldable pub title : ℕ → List ℕ
title rule = rule_title rule

unfoldable pub kept_sentence : ℕ → Letter → List ℕ
kept_sentence rule letter = kept_where rule letter

-- a place in a file: its name, and the number of a line of it
unfoldable pub place_text : List ℕ → ℕ → List ℕ
place_text name line = name ++ codes ":" ++ decimal line

-- behind a rule what is wrong by the clause of it, and behind its title where that clause is kept
unfoldable pub wrong_part : ℕ → Letter → List ℕ
wrong_part rule letter = codes ": " ++ wrong_sentence rule letter

unfoldable pub kept_part : ℕ → Letter → List ℕ
kept_part rule letter = codes ": " ++ kept_sentence rule letter

-- the first line, as a compiler tells of an error: FILE:LINE, the verdict, and what is wrong. The
-- lines of the header are 1 and 2.
unfoldable pub refusal_line : List ℕ → Refusal → List ℕ
refusal_line name r =
    place_text name (r.index + 2) ++ codes ": refused event " ++ decimal r.index ++ codes ": "
    ++ page_name r.rule None ++ wrong_part r.rule r.letter ++ codes "\n"

-- what the rule asks: the name of the clause, the title of the rule, and where the clause is kept
unfoldable pub rule_line : Refusal → List ℕ
rule_line r =
    codes "  " ++ page_name r.rule (Some r.letter) ++ codes "  " ++ title r.rule
    ++ kept_part r.rule r.letter ++ codes "\n"

-- what the clause expects, and what it got, if it expects a value
unfoldable pub expected_part : Option Expectation → List ℕ
expected_part None = []
expected_part (Some x) = lines_text x

-- where the word stands that came, if that is told
unfoldable pub origin_part : Option Origin → List ℕ
origin_part None = []
origin_part (Some o) = codes "  note      " ++ origin_words o ++ codes "\n"

-- what there is of the line of the event before it, if it is about a line
unfoldable pub before_part : SideFacts → ℕ → Header → Option LineBefore → List ℕ
before_part f index h None = []
before_part f index h (Some b) = codes "\n" ++ before.line_text f index h b

-- the event as it stands in the trace, with its data folded; when it is, in words, and what is
-- remarked there
unfoldable pub event_part : SideFacts → Refusal → List ℕ
event_part f r =
    codes "  " ++ folded_text r.event (event_text r.header.version r.event) ++ moment f r.index
    ++ codes "\n" ++ event_words f r.led ++ note_text f r.index

-- the event; what the rule asks, expects and got, and where that stands; and what there is of the
-- line before the event: each with an empty line before it
unfoldable pub evidence : SideFacts → Refusal → List ℕ
evidence f r =
    codes "\n" ++ event_part f r ++ codes "\n"
    ++ rule_line r ++ expected_part r.expected ++ origin_part r.origin
    ++ before_part f r.index r.header r.before

-- that the side file can't be read, and why
abbrev pub fault_line : Option (List ℕ) → List ℕ
fault_line None = []
fault_line (Some why) = codes "\n  note: " ++ why ++ codes "\n"

-- what is told behind the first line: these, what led to the event, and where to look first
unfoldable pub rest_of : SideFacts → Refusal → List ℕ
rest_of f r =
    evidence f r ++ led_text f r.rule r.letter r.led ++ advice r.rule ++ fault_line (fault_in f)

-- what is told of the event in the trace of this name, with what its side file tells: the first
-- line alone where that was asked for
unfoldable pub refusal_text : SideFacts → List ℕ → Bool → Refusal → List ℕ
refusal_text f name short r = refusal_line name r ++ (if short then [] else rest_of f r)

-- the events of which a time is told: the last ones of the rows, and the event itself
abbrev pub shown_events : Refusal → List ℕ
shown_events r =
    map (λ (row : Row). row.last) (take r.led.count r.led.rows) ++ r.led.own.last ∷ []
    ++ r.index ∷ []
