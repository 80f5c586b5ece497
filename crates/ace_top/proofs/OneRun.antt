-- To each input of any command answers of one status are due.
use Rattle.std.proofs.Common.{◌≡◌, ℕ, List, Option, Some, refl, sym, ap, ◌∙◌}
use Rattle.ace_top.specs.declared.answer.Answer.{Answer}
use Rattle.ace_top.specs.declared.answer.Answer.TheVariants.{NoMemory, Tried}
use Rattle.ace_top.specs.declared.words.Command.{Command}
use Rattle.ace_top.specs.declared.words.Command.TheVariants.{Account, Convert, Run, Trial}
use Rattle.ace_top.specs.Answer.{IsAnswer, FitsAnswer, IsDue}
use Rattle.ace_top.specs.Run.{IsTried}
use Rattle.ace_top.specs.Texts.{status_of}
use Rattle.ace_top.proofs.OneAnswer.{one_answer, one_told, one_written}
use Rattle.ace_top.proofs.OneScript.{one_ran}

tried_status : (number : ℕ) (answer : Answer) → IsDue answer → IsTried number answer → status_of answer ≡ 0
tried_status number (Tried n events) d t = refl
tried_status number NoMemory d t = absurd d
tried_status number answer d t = absurd t

-- the answers that are due have one status
pub one_status : (command : Command) (bytes : List ℕ) (left last : Option (List ℕ)) (answer other : Answer) (text more : List ℕ)
    → IsDue answer → IsDue other → FitsAnswer command answer text → FitsAnswer command other more
    → IsAnswer command (Some bytes) left answer text → IsAnswer command (Some bytes) last other more → status_of answer ≡ status_of other
one_status (Run snooping) bytes left last answer other text more d o f g a b = ap status_of (one_ran snooping bytes answer other text more d o a b)
one_status (Trial number) bytes left last answer other text more d o f g a b = tried_status number answer d a ∙ sym (tried_status number other o b)
one_status (Convert conversion) bytes left last answer other text more d o f g a b = ap status_of (one_written conversion bytes left last answer other text more d o a b).0
one_status (Account account) bytes left last answer other text more d o f g a b = ap status_of (one_told account bytes answer other text more d o a b)
one_status command bytes left last answer other text more d o f g a b = ap status_of (one_answer command bytes left last answer other text more tt d o f g a b).0
