-- Where to look first when a rule is broken.
use Rattle.std.specs.Prelude.{ℕ, ◌++◌, ◌==◌, Bool, if◌then◌else◌, length, not, List, [], codes}
use Rattle.ace_advice.specs.Designs.{in_a_design}
use Rattle.ace_advice.specs.Recorders.{in_a_recorder}

-- how designs break the rule, and what to look at in a recorder
unfoldable pub of_designs : ℕ → List ℕ
of_designs rule = in_a_design rule

unfoldable pub of_recorders : ℕ → List ℕ
of_recorders rule = in_a_recorder rule

-- a line: a label of 17 columns and what is told
unfoldable pub labelled : List ℕ → List ℕ → List ℕ
labelled label text = label ++ text ++ codes "\n"

-- there is something to tell
unfoldable pub is_told : List ℕ → Bool
is_told text = not (length text == 0)

-- the line, if there is something to tell
unfoldable pub labelled_part : List ℕ → List ℕ → List ℕ
labelled_part label text = if is_told text then labelled label text else []

-- both for the rule, with an empty line before them
unfoldable pub advice : ℕ → List ℕ
advice rule =
    codes "\n" ++ labelled (codes "  in a design    ") (of_designs rule)
    ++ labelled_part (codes "  in a recorder  ") (of_recorders rule)
