-- Why the answer is that the input failed.
use Rattle.std.specs.Prelude.{◌≡◌, ◌≢◌, ℕ}
use Rattle.ace_io.specs.Faults.{Rose}
use Rattle.ace_top.specs.declared.answer.Answer.{Answer}
use Rattle.ace_top.specs.declared.answer.Answer.TheVariants.{ReadFault}

-- A count of faults goes up exactly where the answer is that the input failed.
pub record HasReadCause (before now : ℕ) (answer : Answer) : Type 0 where
  pub failed : answer ≡ ReadFault → Rose before now
  pub steady : answer ≢ ReadFault → now ≡ before
