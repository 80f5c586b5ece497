-- What `gen` answers.
use Rattle.std.specs.Prelude.{◌≡◌, ℕ, List, []}
use Rattle.ace_script.specs.Generated.{generated}
use Rattle.ace_script.specs.Text.{plan_text}
use Rattle.ace_top.specs.declared.answer.Answer.{Answer}
use Rattle.ace_top.specs.declared.answer.Answer.TheVariants.{Generated, NoMemory}

-- the script that is made from this number
abbrev pub script_of : ℕ → List ℕ
script_of number = plan_text (generated number)

-- The answer where this number's script is to be written, and the text that is written: the script.
-- Want of memory may take its place.
abbrev pub IsGenerated : ℕ → Answer → List ℕ → Type 0
IsGenerated number Generated text = text ≡ script_of number
IsGenerated number NoMemory text = text ≡ []
IsGenerated number answer text = ⊥
