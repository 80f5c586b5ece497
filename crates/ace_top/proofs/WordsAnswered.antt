-- From the answer of a command to the answer to a list of words.
use Rattle.std.proofs.Common.{◌≡◌, ◌≢◌, ◌⊎◌, ℕ, List, [], ◌∷◌, Option, String, codes, map, inl, inr, sym, ap, subst, ◌∙◌, arith}
use Rattle.std.specs.String.{string_bytes}
use Rattle.std.specs.declared.alloc.Global.{Global}
use Rattle.ace_account.specs.declared.listener.Account.{Account}
use Rattle.ace_account.specs.declared.listener.Account.TheVariants.{Report, Order}
use Rattle.ace_convert.specs.declared.conversion.Conversion.{Conversion}
use Rattle.ace_convert.specs.declared.conversion.Conversion.TheVariants.{Show, Migrate, Pack, Unpack}
use Rattle.ace_top.specs.declared.words.Command.{Command}
use Rattle.ace_top.specs.declared.words.Command.TheVariants as command
use Rattle.ace_top.specs.declared.words.Command.TheVariants.{Convert}
use Rattle.ace_top.specs.declared.words.Snooping.TheVariants.{AllPorts, KeptPorts}
use Rattle.ace_top.specs.Answer.{CarriesOut, AnswersWords, BreaksOffWords}
use Rattle.ace_top.specs.Command.{Judges, Names, ReadsInput, ReadsScript, ReadsTrace}
use Rattle.ace_call.proofs.Parts.{nothing_appended}
use Rattle.ace_top.specs.declared.answer.Answer.TheVariants.{NoMemory, Usage}
use Rattle.ace_convert.specs.Output.{AppendsPart}
use Rattle.ace_call.specs.Output.{AppendsParts}
use Rattle.ace_top.specs.Texts.{notes_text_of}
use Rattle.ace_call.specs.Number.{IsNumber}
use Rattle.ace_top.specs.Words.{IsCheck, IsSomeAccount, IsConvert, IsRun, IsSomeRun, IsGen, IsNumbered, IsTrial, IsTraceCommand, IsReadingCommand, IsCommand, IsWord, account_word, word_of}

pub words_carried : (words : List (String Global)) (command : Command) (input left : Option (List ℕ)) (status : ℕ) (out out' notes notes' : Option (List ℕ)) (faults faults' : ℕ)
    → CarriesOut command input left status out out' notes notes' faults faults' → Names words command → status ≢ 5 → AnswersWords words input left status out out' notes notes'
words_carried words command input left status out out' notes notes' faults faults' c n ne = inl (command, n, c.answer ne)

pub words_broken : (words : List (String Global)) (command : Command) (input left : Option (List ℕ)) (status : ℕ) (out out' notes notes' : Option (List ℕ)) (faults faults' : ℕ)
    → CarriesOut command input left status out out' notes notes' faults faults' → Names words command → status ≡ 5 → BreaksOffWords words input left out out' notes notes'
words_broken words command input left status out out' notes notes' faults faults' c n five = inl (command, n, c.broken_off five)

-- the usage was broken off: its text is for the notes alone
pub usage_broken : (words : List (String Global)) (input left out out' notes notes' : Option (List ℕ))
    → ¬ IsCommand words → AppendsPart out out' [] → AppendsParts notes notes' (notes_text_of Usage) (codes "write fault\n") → BreaksOffWords words input left out out' notes notes'
usage_broken words input left out out' notes notes' n part parts = inr (inl (n, nothing_appended out out' part, parts))

-- so was the text that there was no memory to parse the words
pub memory_broken : (words : List (String Global)) (input left out out' notes notes' : Option (List ℕ))
    → AppendsPart out out' [] → AppendsParts notes notes' (notes_text_of NoMemory) (codes "write fault\n") → BreaksOffWords words input left out out' notes notes'
memory_broken words input left out out' notes notes' part parts = inr (inr (nothing_appended out out' part, parts))

-- the word `run` names no trace command
one_run : (words : List (String Global)) → IsRun words AllPorts → ¬ IsTraceCommand words
one_run words n (inl one) = absurd cc
one_run words n (inr (inl (Report, one))) = absurd cc
one_run words n (inr (inl (Order, one))) = absurd cc
one_run words n (inr (inr (Show, one))) = absurd cc
one_run words n (inr (inr (Migrate, one))) = absurd cc
one_run words n (inr (inr (Pack, one))) = absurd cc
one_run words n (inr (inr (Unpack, one))) = absurd cc

-- nor do the two words `run filter`
filtered_run : (words : List (String Global)) → IsRun words KeptPorts → ¬ IsTraceCommand words
filtered_run words n (inl one) = absurd cc
filtered_run words n (inr (inl (account, one))) = absurd cc
filtered_run words n (inr (inr (conversion, one))) = absurd cc

runs_no_trace : (words : List (String Global)) → IsSomeRun words → ¬ IsTraceCommand words
runs_no_trace words (AllPorts, n) = one_run words n
runs_no_trace words (KeptPorts, n) = filtered_run words n

abbrev first_letter : List (List ℕ) → ℕ
first_letter ((letter ∷ text) ∷ words) = letter
first_letter words = 0

-- the word of a conversion names no command that tells a verdict
converts_no_verdict : (words : List (String Global)) (conversion : Conversion) → IsConvert words conversion → ¬ (IsCheck words ⊎ IsSomeAccount words)
converts_no_verdict words Show n (inl one) = absurd cc
converts_no_verdict words Show n (inr (Report, one)) = absurd cc
converts_no_verdict words Show n (inr (Order, one)) = absurd cc
converts_no_verdict words Migrate n (inl one) = absurd cc
converts_no_verdict words Migrate n (inr (Report, one)) = absurd cc
converts_no_verdict words Migrate n (inr (Order, one)) = absurd cc
converts_no_verdict words Pack n (inl one) = absurd cc
converts_no_verdict words Pack n (inr (Report, one)) = absurd cc
converts_no_verdict words Pack n (inr (Order, one)) = absurd cc
converts_no_verdict words Unpack n (inl one) = absurd cc
converts_no_verdict words Unpack n (inr (Report, one)) = let e : ◌≡◌ {A = ℕ} 117 114 = ap first_letter (sym n ∙ one) in absurd (omega (arith, e))
converts_no_verdict words Unpack n (inr (Order, one)) = absurd cc

-- nor does a word with a number name a command that reads its input
two_words : (words : List (String Global)) (text : List ℕ) (number : ℕ) → text ≢ codes "run" → IsNumbered words text number → ¬ IsReadingCommand words
two_words words text number other (word, are, is) (inl (inl one)) = absurd cc
two_words words text number other (word, are, is) (inl (inr (inl (account, one)))) = absurd cc
two_words words text number other (word, are, is) (inl (inr (inr (conversion, one)))) = absurd cc
two_words words text number other (word, are, is) (inr (AllPorts, one)) = absurd cc
two_words words text number other (word, are, is) (inr (KeptPorts, one)) =
    let e : text ∷ word ∷ [] ≡ codes "run" ∷ codes "filter" ∷ [] = sym are ∙ one in
    other cc

gen_reads_nothing : (words : List (String Global)) (number : ℕ) → IsGen words number → ¬ IsReadingCommand words
gen_reads_nothing words number n =
    two_words words (codes "gen") number (λ same. let e : ◌≡◌ {A = ℕ} 103 114 = ap (λ text. first_letter (text ∷ [])) same in absurd (omega (arith, e))) n

trial_reads_nothing : (words : List (String Global)) (number : ℕ) → IsTrial words number → ¬ IsReadingCommand words
trial_reads_nothing words number n =
    two_words words (codes "trial") number (λ same. let e : ◌≡◌ {A = ℕ} 116 114 = ap (λ text. first_letter (text ∷ [])) same in absurd (omega (arith, e))) n

-- what the words say of the command that they name
pub is_command : (words : List (String Global)) (command : Command) → Names words command → IsCommand words
is_command words command.Check n = inl (inl (inl n))
is_command words (command.Account account) n = inl (inl (inr (inl (account, n))))
is_command words (Convert conversion) n = inl (inl (inr (inr (conversion, n))))
is_command words (command.Run snooping) n = inl (inr (snooping, n))
is_command words (command.Gen number) n = inr (number, inl n)
is_command words (command.Trial number) n = inr (number, inr n)

pub is_reading_command : (words : List (String Global)) (command : Command) → Names words command → ReadsInput command → IsReadingCommand words
is_reading_command words command.Check n reads = inl (inl n)
is_reading_command words (command.Account account) n reads = inl (inr (inl (account, n)))
is_reading_command words (Convert conversion) n reads = inl (inr (inr (conversion, n)))
is_reading_command words (command.Run snooping) n reads = inr (snooping, n)
is_reading_command words (command.Gen number) n (inl reads) = absurd reads
is_reading_command words (command.Gen number) n (inr reads) = absurd reads
is_reading_command words (command.Trial number) n (inl reads) = absurd reads
is_reading_command words (command.Trial number) n (inr reads) = absurd reads

pub reads_trace : (words : List (String Global)) (command : Command) → Names words command → IsTraceCommand words → ReadsTrace command
reads_trace words command.Check n t = tt
reads_trace words (command.Account account) n t = tt
reads_trace words (Convert conversion) n t = tt
reads_trace words (command.Run snooping) n t = absurd (runs_no_trace words (snooping, n) t)
reads_trace words (command.Gen number) n t = absurd (gen_reads_nothing words number n (inl t))
reads_trace words (command.Trial number) n t = absurd (trial_reads_nothing words number n (inl t))

pub reads_script : (words : List (String Global)) (command : Command) → Names words command → IsSomeRun words → ReadsScript command
reads_script words command.Check n r = absurd (runs_no_trace words r (inl n))
reads_script words (command.Account account) n r = absurd (runs_no_trace words r (inr (inl (account, n))))
reads_script words (Convert conversion) n r = absurd (runs_no_trace words r (inr (inr (conversion, n))))
reads_script words (command.Run snooping) n r = tt
reads_script words (command.Gen number) n r = absurd (gen_reads_nothing words number n (inr r))
reads_script words (command.Trial number) n r = absurd (trial_reads_nothing words number n (inr r))

judging_reads : (words : List (String Global)) → IsCheck words ⊎ IsSomeAccount words → IsTraceCommand words
judging_reads words (inl check) = inl check
judging_reads words (inr account) = inr (inl account)

pub judges : (words : List (String Global)) (command : Command) → Names words command → IsCheck words ⊎ IsSomeAccount words → Judges command
judges words command.Check n j = tt
judges words (command.Account account) n j = tt
judges words (Convert conversion) n j = absurd (converts_no_verdict words conversion n j)
judges words (command.Run snooping) n j = absurd (runs_no_trace words (snooping, n) (judging_reads words j))
judges words (command.Gen number) n j = absurd (gen_reads_nothing words number n (inl (judging_reads words j)))
judges words (command.Trial number) n j = absurd (trial_reads_nothing words number n (inl (judging_reads words j)))

pub ruleset words_answered = (words_carried, words_broken, usage_broken, is_command, is_reading_command, reads_trace, reads_script, judges)

-- ---- the words that name no command

-- of the texts of one word
same_word : (words : List (String Global)) (text other : List ℕ) → map string_bytes words ≡ text ∷ [] → IsWord words other → text ≡ other
same_word words text other are is = let e : text ∷ [] ≡ other ∷ [] = sym are ∙ is in cc

pub names_none : (words : List (String Global)) (text : List ℕ) → map string_bytes words ≡ text ∷ [] → text ≢ codes "check" → text ≢ codes "run"
    → ((account : Account) → text ≢ account_word account) → ((conversion : Conversion) → text ≢ word_of conversion) → ¬ IsCommand words
names_none words text are check run account none (inl (inl (inl one))) = check (same_word words text (codes "check") are one)
names_none words text are check run account none (inl (inl (inr (inl (a, one))))) = account a (same_word words text (account_word a) are one)
names_none words text are check run account none (inl (inl (inr (inr (conversion, one))))) = none conversion (same_word words text (word_of conversion) are one)
names_none words text are check run account none (inl (inr (AllPorts, one))) = run (same_word words text (codes "run") are one)
names_none words text are check run account none (inl (inr (KeptPorts, one))) = absurd cc
names_none words text are check run account none (inr (number, inl (word, two, is))) = absurd cc
names_none words text are check run account none (inr (number, inr (word, two, is))) = absurd cc

pub names_account : (words : List (String Global)) (text : List ℕ) (account : Account) → map string_bytes words ≡ text ∷ [] → text ≡ account_word account
    → Names words (command.Account account)
names_account words text account are is = are ∙ ap (λ t. t ∷ []) is

pub names_conversion : (words : List (String Global)) (text : List ℕ) (conversion : Conversion) → map string_bytes words ≡ text ∷ [] → text ≡ word_of conversion
    → Names words (Convert conversion)
names_conversion words text conversion are is = are ∙ ap (λ t. t ∷ []) is

-- two words name a command only with a number, or where they are those of a run with a filter
pub names_no_two : (words : List (String Global)) (text word : List ℕ) → map string_bytes words ≡ text ∷ word ∷ []
    → (text ≡ codes "run" → word ≢ codes "filter")
    → ((number : ℕ) → IsNumber word number → (text ≢ codes "gen") × (text ≢ codes "trial")) → ¬ IsCommand words
names_no_two words text word are filter none (inl (inl (inl one))) = absurd cc
names_no_two words text word are filter none (inl (inl (inr (inl (account, one))))) = absurd cc
names_no_two words text word are filter none (inl (inl (inr (inr (conversion, one))))) = absurd cc
names_no_two words text word are filter none (inl (inr (AllPorts, one))) = absurd cc
names_no_two words text word are filter none (inl (inr (KeptPorts, one))) =
    let e : text ∷ word ∷ [] ≡ codes "run" ∷ codes "filter" ∷ [] = sym are ∙ one in
    let t : text ≡ codes "run" = cc in
    let w : word ≡ codes "filter" = cc in
    filter t w
names_no_two words text word are filter none (inr (number, inl (other, two, is))) =
    let e : text ∷ word ∷ [] ≡ codes "gen" ∷ other ∷ [] = sym are ∙ two in
    let w : word ≡ other = cc in
    let t : text ≡ codes "gen" = cc in
    (none number (subst (λ x. IsNumber x number) (sym w) is)).0 t
names_no_two words text word are filter none (inr (number, inr (other, two, is))) =
    let e : text ∷ word ∷ [] ≡ codes "trial" ∷ other ∷ [] = sym are ∙ two in
    let w : word ≡ other = cc in
    let t : text ≡ codes "trial" = cc in
    (none number (subst (λ x. IsNumber x number) (sym w) is)).1 t

pub ruleset naming = (names_none, names_account, names_conversion)
