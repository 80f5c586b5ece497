-- What the words of the command line ask.
use Rattle.std.specs.Prelude.{◌≡◌, ℕ, List, [], ◌∷◌, Some, codes}
use Rattle.ace_pages.specs.Told.{pages_told}
use Rattle.ace_tool.specs.Asked.{AsksCheck, CheckAsked}
use Rattle.ace_tool.specs.ExplainAsked.{AsksExplain, ExplainAsked}

-- what can be asked: the help on all commands or on one, the version, a check, an explanation, or
-- the text of the pages that tell of rules
pub data Wish : Type 0 where
  Help : Wish
  HelpOfCheck : Wish
  HelpOfExplain : Wish
  HelpOfRule : Wish
  Version : Wish
  Check : CheckAsked → Wish
  Explain : ExplainAsked → Wish
  Pages : List ℕ → Wish

-- The words ask this.
abbrev pub Asks : List (List ℕ) → Wish → Type 0
Asks words Help = words ≡ codes "--help" ∷ []
Asks words HelpOfCheck = words ≡ codes "check" ∷ codes "--help" ∷ []
Asks words HelpOfExplain = words ≡ codes "explain" ∷ codes "--help" ∷ []
Asks words HelpOfRule = words ≡ codes "rule" ∷ codes "--help" ∷ []
Asks words Version = words ≡ codes "--version" ∷ []
Asks words (Check check) =
    (rest : List (List ℕ)) × (words ≡ codes "check" ∷ rest) × AsksCheck rest check
Asks words (Explain explain) =
    (rest : List (List ℕ)) × (words ≡ codes "explain" ∷ rest) × AsksExplain rest explain
Asks words (Pages text) =
    (rest : List (List ℕ)) × (words ≡ codes "rule" ∷ rest) × (pages_told rest ≡ Some text)
