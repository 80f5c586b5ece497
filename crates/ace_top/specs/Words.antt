-- The words of the command line.
use Rattle.std.specs.Prelude.{◌≡◌, ◌<◌, ◌^◌, ◌⊎◌, ℕ, List, [], ◌∷◌, map, codes, decimal, String}
use Rattle.std.specs.String.{string_bytes}
use Rattle.std.specs.declared.alloc.Global.{Global}
use Rattle.ace_account.specs.declared.listener.Account.{Account}
use Rattle.ace_account.specs.declared.listener.Account.TheVariants.{Report, Order}
use Rattle.ace_call.specs.Number.{IsNumber}
use Rattle.ace_convert.specs.declared.conversion.Conversion.{Conversion}
use Rattle.ace_convert.specs.declared.conversion.Conversion.TheVariants.{Show, Migrate, Pack, Unpack}
use Rattle.ace_top.specs.declared.words.Snooping.{Snooping}
use Rattle.ace_top.specs.declared.words.Snooping.TheVariants.{AllPorts, KeptPorts}

-- there is one word, and it is this text
abbrev pub IsWord : List (String Global) → List ℕ → Type 0
IsWord words text = map string_bytes words ≡ text ∷ []

abbrev pub IsCheck : List (String Global) → Type 0
IsCheck words = IsWord words (codes "check")

-- the word for an account of an accepted trace
abbrev pub account_word : Account → List ℕ
account_word Report = codes "report"
account_word Order = codes "order"

-- the word is that of an account
abbrev pub IsAccount : List (String Global) → Account → Type 0
IsAccount words account = IsWord words (account_word account)

abbrev pub IsSomeAccount : List (String Global) → Type 0
IsSomeAccount words = (account : Account) × IsAccount words account

-- the word for a conversion
abbrev pub word_of : Conversion → List ℕ
word_of Show = codes "show"
word_of Migrate = codes "migrate"
word_of Pack = codes "pack"
word_of Unpack = codes "unpack"

-- the word is that of a conversion
abbrev pub IsConvert : List (String Global) → Conversion → Type 0
IsConvert words conversion = IsWord words (word_of conversion)

-- the words for a run, by what it snoops
abbrev pub run_words : Snooping → List (List ℕ)
run_words AllPorts = codes "run" ∷ []
run_words KeptPorts = codes "run" ∷ codes "filter" ∷ []

-- the words are those for a run
abbrev pub IsRun : List (String Global) → Snooping → Type 0
IsRun words snooping = map string_bytes words ≡ run_words snooping

abbrev pub IsSomeRun : List (String Global) → Type 0
IsSomeRun words = (snooping : Snooping) × IsRun words snooping

-- there are two words, this text and this number
abbrev pub IsNumbered : List (String Global) → List ℕ → ℕ → Type 0
IsNumbered words text number =
    (word : List ℕ) × (map string_bytes words ≡ text ∷ word ∷ []) × IsNumber word number

abbrev pub IsGen : List (String Global) → ℕ → Type 0
IsGen words number = IsNumbered words (codes "gen") number

abbrev pub IsTrial : List (String Global) → ℕ → Type 0
IsTrial words number = IsNumbered words (codes "trial") number

-- The words name a command that reads a trace.
abbrev pub IsTraceCommand : List (String Global) → Type 0
IsTraceCommand words =
    IsCheck words ⊎ IsSomeAccount words ⊎ ((conversion : Conversion) × IsConvert words conversion)

-- The words name a command that reads its input: a trace, or a script.
abbrev pub IsReadingCommand : List (String Global) → Type 0
IsReadingCommand words = IsTraceCommand words ⊎ IsSomeRun words

-- The words name a command.
abbrev pub IsCommand : List (String Global) → Type 0
IsCommand words =
    IsReadingCommand words ⊎ ((number : ℕ) × (IsGen words number ⊎ IsTrial words number))
