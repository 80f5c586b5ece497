-- The counts that a file tells.
use Rattle.std.proofs.Common.{◌≡◌, ℕ, List, Option, None, Some, ◌∙◌}
use Rattle.std.specs.Prelude.{IfSome}
use Rattle.ace_tool.specs.ListTexts.{IsWhole}

-- what is told of the whole bytes is told of those that the file holds
pub told_whole : (told : Option (List ℕ)) (bytes text : List ℕ) → IsWhole told bytes → bytes ≡ text → IfSome told (λ b. b ≡ text)
told_whole None bytes text whole is = tt
told_whole (Some held) bytes text whole is = whole ∙ is

pub ruleset reading = (told_whole)
