-- What a call of the program does, by its words, by what the files hold and by standard input.
use Rattle.std.specs.Prelude.{◌≡◌, ◌⊎◌, ℕ, List, [], ◌∷◌, Option, codes, bytes_eq, if◌then◌else◌}
use Rattle.std.specs.Io.KnownBytes.{Appends}
use Rattle.ace_call.specs.Output.{AppendsParts}
use Rattle.ace_convert.specs.Output.{AppendsPart}
use Rattle.ace_tool.specs.Held.{Held}
use Rattle.ace_tool.specs.Outcome.{ChecksAll, ChecksSome}
use Rattle.ace_tool.specs.Beside.{Explains, ExplainsPart}
use Rattle.ace_tool.specs.Requests.{Asks, Check, Explain, Help, HelpOfCheck, HelpOfExplain, HelpOfRule, Pages, Version, Wish}
use Rattle.ace_tool.specs.Texts.{check_help, explain_help, help, rule_help, version}

-- the text that answers a wish for a text
abbrev pub IsTold : List ℕ → Option (List ℕ) → Option (List ℕ) → Option (List ℕ)
    → Option (List ℕ) → ℕ → Type 0
IsTold text input left out out' status = (status ≡ 0) × Appends out out' text × (left ≡ input)

-- What is asked was done: of the files and of the input before and after, of the output before and
-- after, and with this status.
abbrev pub Does : (List ℕ → Held) → Wish → Option (List ℕ) → Option (List ℕ)
    → Option (List ℕ) → Option (List ℕ) → ℕ → Type 0
Does holds Help input left out out' status = IsTold help input left out out' status
Does holds HelpOfCheck input left out out' status = IsTold check_help input left out out' status
Does holds HelpOfExplain input left out out' status = IsTold explain_help input left out out' status
Does holds HelpOfRule input left out out' status = IsTold rule_help input left out out' status
Does holds Version input left out out' status = IsTold version input left out out' status
Does holds (Check check) input left out out' status =
    ChecksAll holds check input left out out' status
Does holds (Explain explain) input left out out' status =
    Explains holds explain input left out out' status
Does holds (Pages text) input left out out' status = IsTold text input left out out' status

-- The output failed while it was done.
abbrev pub DoesPart : (List ℕ → Held) → Wish → Option (List ℕ) → Option (List ℕ)
    → Option (List ℕ) → Option (List ℕ) → Type 0
DoesPart holds Help input left out out' = AppendsPart out out' help
DoesPart holds HelpOfCheck input left out out' = AppendsPart out out' check_help
DoesPart holds HelpOfExplain input left out out' = AppendsPart out out' explain_help
DoesPart holds HelpOfRule input left out out' = AppendsPart out out' rule_help
DoesPart holds Version input left out out' = AppendsPart out out' version
DoesPart holds (Check check) input left out out' = ChecksSome holds check input left out out'
DoesPart holds (Explain explain) input left out out' =
    ExplainsPart holds explain input left out out'
DoesPart holds (Pages text) input left out out' = AppendsPart out out' text

-- how the command of this name is used, or where there is none of it all
abbrev pub usage_for : List ℕ → List ℕ
usage_for word =
    if bytes_eq word (codes "check") then check_help
    else if bytes_eq word (codes "explain") then explain_help
    else if bytes_eq word (codes "rule") then rule_help else help

-- the usage that is told where the words are wrong
abbrev pub usage_of : List (List ℕ) → List ℕ
usage_of [] = help
usage_of (word ∷ rest) = usage_for word

-- the words ask nothing
abbrev pub AsksNothing : List (List ℕ) → Type 0
AsksNothing words = (wish : Wish) → ¬ Asks words wish

-- Where no output failed: what the words ask was done, and nothing was noted; or they ask nothing,
-- and the usage was noted. Want of memory for the words may take the place of both.
abbrev pub Answers : (List ℕ → Held) → List (List ℕ) → Option (List ℕ) → Option (List ℕ)
    → Option (List ℕ) → Option (List ℕ) → Option (List ℕ) → Option (List ℕ) → ℕ → Type 0
Answers holds words input left out out' notes notes' status =
    ((wish : Wish) × Asks words wish × Does holds wish input left out out' status
    × Appends notes notes' [])
    ⊎ (AsksNothing words × (status ≡ 2) × Appends out out' []
    × Appends notes notes' (usage_of words))
    ⊎ ((status ≡ 7) × Appends out out' [] × Appends notes notes' (codes "out of memory\n"))

-- Where one failed, it has a front of what it was to get, and then the notes tell so if they can.
abbrev pub BreaksOff : (List ℕ → Held) → List (List ℕ) → Option (List ℕ)
    → Option (List ℕ)
    → Option (List ℕ) → Option (List ℕ) → Option (List ℕ) → Option (List ℕ) → Type 0
BreaksOff holds words input left out out' notes notes' =
    ((wish : Wish) × Asks words wish × DoesPart holds wish input left out out'
    × AppendsPart notes notes' (codes "write fault\n"))
    ⊎ (AsksNothing words × Appends out out' []
    × AppendsParts notes notes' (usage_of words) (codes "write fault\n"))
    ⊎ (Appends out out' []
    × AppendsParts notes notes' (codes "out of memory\n") (codes "write fault\n"))
