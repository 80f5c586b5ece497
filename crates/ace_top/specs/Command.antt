-- Which command words name, and what commands do.
use Rattle.std.specs.Prelude.{⊤, ◌⊎◌, List, String}
use Rattle.std.specs.declared.alloc.Global.{Global}
use Rattle.ace_top.specs.declared.words.Command.{Command}
use Rattle.ace_top.specs.declared.words.Command.TheVariants.{Check, Account, Convert, Run, Gen, Trial}
use Rattle.ace_top.specs.Words.{IsCheck, IsAccount, IsConvert, IsRun, IsGen, IsTrial}

abbrev pub Names : List (String Global) → Command → Type 0
Names words Check = IsCheck words
Names words (Account account) = IsAccount words account
Names words (Convert conversion) = IsConvert words conversion
Names words (Run snooping) = IsRun words snooping
Names words (Gen number) = IsGen words number
Names words (Trial number) = IsTrial words number

-- the command reads a trace
abbrev pub ReadsTrace : Command → Type 0
ReadsTrace Check = ⊤
ReadsTrace (Account account) = ⊤
ReadsTrace (Convert conversion) = ⊤
ReadsTrace command = ⊥

-- it reads a script
abbrev pub ReadsScript : Command → Type 0
ReadsScript (Run snooping) = ⊤
ReadsScript command = ⊥

-- it reads a trace, and tells whether it is accepted
abbrev pub Judges : Command → Type 0
Judges Check = ⊤
Judges (Account account) = ⊤
Judges command = ⊥

-- it reads its input
abbrev pub ReadsInput : Command → Type 0
ReadsInput command = ReadsTrace command ⊎ ReadsScript command
