-- The two lines that tell what a clause expects, and what it got.
use Rattle.std.specs.Prelude.{ℕ, ◌++◌, ◌==◌, Bool, if◌then◌else◌, List, [], ◌∷◌, codes, length}
use Rattle.ace_codes.specs.declared.state.LineState.{LineState}
use Rattle.ace_codes.specs.declared.state.LineState.TheVariants.{I, UC, UD, SC, SD}
use Rattle.ace_event.specs.Text.{hex_text, line_digits, state_text}
use Rattle.ace_expected.specs.Tables.{allows}
use Rattle.ace_expected.specs.declared.wanted.Expectation.{Expectation}
use Rattle.ace_expected.specs.declared.wanted.Expectation.TheVariants.{State, Answer, Number, Sent, Data}
use Rattle.ace_expected.specs.declared.wanted.StateTable.{StateTable}
use Rattle.ace_expected.specs.declared.wanted.Width.{Width}
use Rattle.ace_expected.specs.declared.wanted.Width.TheVariants.{Digit, Strobe, Word}
use Rattle.ace_tables.specs.Answers.{snoop_rows}
use Rattle.ace_tables.specs.declared.rows.Row.{Row}

-- one more of some alternatives, behind those so far
abbrev pub separator : List ℕ → List ℕ
separator so_far = if length so_far == 0 then [] else codes " or "

unfoldable pub joined : List ℕ → List ℕ → List ℕ
joined so_far word = so_far ++ separator so_far ++ word

-- the states that the table allows, as in a trace
unfoldable pub add_state : StateTable → List ℕ → LineState → List ℕ
add_state table so_far st = if allows table st then joined so_far (state_text st) else so_far

unfoldable pub states_text : StateTable → List ℕ
states_text table =
    add_state table (add_state table
    (add_state table (add_state table (add_state table [] UD) SD) UC) SC) I

-- an answer to a snoop, as in a CR: CRRESP and the state
unfoldable pub row_text : Row → List ℕ
row_text row = hex_text 2 row.resp ++ codes " " ++ state_text row.next

unfoldable pub add_rows : List ℕ → List Row → List ℕ
add_rows so_far [] = so_far
add_rows so_far (row ∷ rows) = add_rows (joined so_far (row_text row)) rows

-- how many digits a field has
abbrev pub digits_of : Width → ℕ
digits_of Digit = 1
digits_of Strobe = 4
digits_of Word = 32

-- what is expected: nothing where no value is right, or none can be told
abbrev pub expected_text : Expectation → List ℕ
expected_text (State table got) = states_text table
expected_text (Answer kind held update resp next) = add_rows [] (snoop_rows kind held update)
expected_text (Number width expected got) = hex_text (digits_of width) expected
expected_text (Sent got) = []
expected_text (Data expected got) = line_digits expected

-- what was got, as it stands in the trace
abbrev pub got_text : Expectation → List ℕ
got_text (State table got) = state_text got
got_text (Answer kind held update resp next) = row_text (record { resp = resp; next = next })
got_text (Number width expected got) = hex_text (digits_of width) got
got_text (Sent got) = hex_text 32 got
got_text (Data expected got) = line_digits got

unfoldable pub expected_line : List ℕ → List ℕ
expected_line text =
    if length text == 0 then [] else codes "  expected  " ++ text ++ codes "\n"

unfoldable pub got_line : List ℕ → List ℕ
got_line text = codes "  got       " ++ text ++ codes "\n"

-- both lines; that of what was got alone where nothing is told of what is expected
unfoldable pub lines_text : Expectation → List ℕ
lines_text x = expected_line (expected_text x) ++ got_line (got_text x)
