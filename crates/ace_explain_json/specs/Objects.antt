-- What there is to say of a trace, as a JSON object in one line. What there isn't is null.
use Rattle.std.specs.Prelude.{ℕ, ◌++◌, List, Option, Some, None, codes, decimal}
use Rattle.ace_batch.specs.Json.{number_json}
use Rattle.ace_batch.specs.Outcomes.{verdict_of}
use Rattle.ace_batch.specs.declared.outcome.Outcome.{Outcome}
use Rattle.ace_batch.specs.declared.outcome.Outcome.TheVariants as outcome
use Rattle.ace_explain_json.specs.Events.{before_json, clause_json, earlier_in, earlier_json, event_json, evidence_json, note_json, place_json, sentences_json, values_json}
use Rattle.ace_explain_json.specs.Members.{quoted, quoted_if}
use Rattle.ace_explain_json.specs.Outcomes.{outcome_of_verdict}
use Rattle.ace_explanation.specs.Texts.{verdict_text}
use Rattle.ace_explanation.specs.declared.explanation.Explanation.{Explanation}
use Rattle.ace_explanation.specs.declared.explanation.Explanation.TheVariants.{Refused, Malformed, Accepted, Other}
use Rattle.ace_explanation.specs.declared.refusal.Refusal.{Refusal}
use Rattle.ace_grammar.specs.Reasons.{number_of_reason}
use Rattle.ace_malformed.specs.Places.{column_of}
use Rattle.ace_malformed.specs.Sentences.{wrong_sentence}
use Rattle.ace_malformed.specs.declared.bad_line.BadLine.{BadLine}
use Rattle.ace_side_facts.specs.Facts.{fault_in, time_in}
use Rattle.ace_side_facts.specs.declared.facts.SideFacts.{SideFacts}

-- the file, and how its check came out
unfoldable pub which_json : List ℕ → Outcome → List ℕ
which_json name how =
    codes "{\"file\":" ++ quoted name ++ codes ",\"verdict\":" ++ quoted (verdict_of how)

-- when the event is, and how many events are accepted
unfoldable pub time_json : Option ℕ → List ℕ
time_json time = codes ",\"time\":" ++ number_json time

unfoldable pub accepted_json : Option ℕ → List ℕ
accepted_json accepted = codes ",\"accepted\":" ++ number_json accepted

-- how many transactions are outstanding behind them
unfoldable pub outstanding_json : Option ℕ → List ℕ
outstanding_json outstanding = codes ",\"outstanding\":" ++ number_json outstanding

-- why the side file of a refused trace can't be read
unfoldable pub side_json : Option (List ℕ) → List ℕ
side_json side = codes ",\"side\":" ++ quoted_if side ++ codes "}\n"

unfoldable pub counts_json : Option ℕ → Option ℕ → List ℕ
counts_json accepted outstanding = accepted_json accepted ++ outstanding_json outstanding

unfoldable pub end_json : Option ℕ → Option ℕ → Option ℕ → Option (List ℕ) → List ℕ
end_json time accepted outstanding side =
    time_json time ++ counts_json accepted outstanding ++ side_json side

-- of an event that breaks a rule: what that is, and what there is to say of the event
unfoldable pub rule_json : Refusal → List ℕ
rule_json r =
    place_json r.index ++ clause_json r ++ sentences_json r ++ event_json r
    ++ values_json r.expected

unfoldable pub behind_json : SideFacts → Refusal → List ℕ
behind_json f r =
    codes ",\"note\":" ++ note_json r.origin ++ earlier_json (earlier_in r.led)
    ++ codes ",\"evidence\":" ++ evidence_json f r.rule r.letter r.led
    ++ before_json r.header r.before

-- with what its side file tells
unfoldable pub refusal_json : List ℕ → SideFacts → Refusal → List ℕ
refusal_json name f r =
    which_json name outcome.Refused ++ rule_json r ++ behind_json f r
    ++ end_json (time_in f r.index) None None (fault_in f)

-- of a trace without such an event
unfoldable pub no_event : List ℕ
no_event = codes ",\"record\":null,\"port\":null,\"kind\":null,\"address\":null"

unfoldable pub no_values : List ℕ
no_values =
    codes ",\"expected\":null,\"got\":null,\"note\":null,\"earlier\":null,\"evidence\":[],\"states\":null"

unfoldable pub no_evidence : List ℕ
no_evidence = no_event ++ no_values ++ codes ",\"grant\":null"

unfoldable pub no_clause : List ℕ
no_clause = codes ",\"clause\":null,\"title\":null,\"sentence\":null,\"message\":"

-- of a malformed line: where that is, the reason, and what is wrong
unfoldable pub column_json : BadLine → List ℕ
column_json b =
    codes ",\"line\":" ++ decimal b.number ++ codes ",\"column\":" ++ decimal (column_of b)

unfoldable pub reason_name : List ℕ
reason_name = codes ",\"event\":null,\"rule\":\"F"

unfoldable pub number_part : ℕ → List ℕ
number_part reason = reason_name ++ decimal reason ++ codes "\""

unfoldable pub reason_json : BadLine → List ℕ
reason_json b =
    number_part (number_of_reason b.reason) ++ no_clause ++ quoted (wrong_sentence b)

unfoldable pub malformed_json : List ℕ → BadLine → List ℕ
malformed_json name b =
    which_json name outcome.Malformed ++ column_json b ++ reason_json b ++ no_evidence
    ++ end_json None None None None

-- of any other trace: what is told of it, if anything
unfoldable pub no_place : List ℕ
no_place = codes ",\"line\":null,\"column\":null,\"event\":null,\"rule\":null"

unfoldable pub plain_json : List ℕ → Outcome → Option (List ℕ) → Option ℕ → Option ℕ → List ℕ
plain_json name how message accepted outstanding =
    which_json name how ++ no_place ++ no_clause ++ quoted_if message ++ no_evidence
    ++ end_json None accepted outstanding None

-- all that there is to say of the trace of this name, with what its side file tells
abbrev pub explanation_json : List ℕ → SideFacts → Explanation → List ℕ
explanation_json name f (Refused r) = refusal_json name f r
explanation_json name f (Malformed b) = malformed_json name b
explanation_json name f (Accepted events outstanding) =
    plain_json name outcome.Accepted None (Some events) (Some outstanding)
explanation_json name f (Other v) =
    plain_json name (outcome_of_verdict v) (Some (verdict_text v)) None None

-- where there is no memory for that
unfoldable pub no_memory_json : List ℕ
no_memory_json =
    codes "{\"file\":null,\"verdict\":\"memory\",\"line\":null,\"column\":null,\"event\":null,\"rule\":null,\"clause\":null,\"title\":null,\"sentence\":null,\"message\":\"out of memory\",\"record\":null,\"port\":null,\"kind\":null,\"address\":null,\"expected\":null,\"got\":null,\"note\":null,\"earlier\":null,\"evidence\":[],\"states\":null,\"grant\":null,\"time\":null,\"accepted\":null,\"outstanding\":null,\"side\":null}\n"
