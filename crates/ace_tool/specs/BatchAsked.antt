-- What the words behind `batch` ask.
use Rattle.std.specs.Prelude.{◌≡◌, ◌||◌, ◌==◌, ℕ, Bool, false, if◌then◌else◌, List, [], ◌∷◌, Option, None, Some, bytes_eq, is_some, option_and_then, option_map, true}
use Rattle.std.specs.List.{after_first, before_first}
use Rattle.std.specs.Map.{lookup}
use Rattle.ace_tool.specs.Asked.{AreOptions, Asked, Options, nothing, with_more}
use Rattle.ace_tool.specs.BatchOptions.{AreExtras, Extras, SaidExtras, batch_flags, batch_valued, no_extras, with_batch_flag, with_batch_value}
use Rattle.ace_tool.specs.Options.{has_equals}
use Rattle.ace_tool.specs.declared.batch_options.BatchFlag.{BatchFlag}
use Rattle.ace_tool.specs.declared.batch_options.BatchValued.{BatchValued}

-- What the words so far ask: what they ask `check`, and the options that it doesn't have. One of
-- them may wait for its value.
pub record BatchSoFar : Type 0 where
  pub check : Asked
  pub waiting : Option BatchValued
  pub extras : Extras

abbrev pub nothing_of_batch : BatchSoFar
nothing_of_batch = record { check = nothing; waiting = None; extras = no_extras }

-- a word as `check` takes it
abbrev pub with_check_word : List ℕ → BatchSoFar → Option BatchSoFar
with_check_word word a = option_map (λ c. record a { check = c }) (with_more word a.check)

-- the value of an option
abbrev pub with_extra_of : BatchValued → List ℕ → BatchSoFar → Option BatchSoFar
with_extra_of option value a =
    option_map (λ e. record a { extras = e }) (with_batch_value option value a.extras)

-- a word that is an option with its value, if it is one of `batch`, or else as `check` takes it
abbrev pub with_whole_by : Option BatchValued → List ℕ → BatchSoFar → Option BatchSoFar
with_whole_by None word a = with_check_word word a
with_whole_by (Some option) word a = with_extra_of option (after_first (λ b. b == 61) word) a

-- a word that is an option whose value is the next word, or else as `check` takes it
abbrev pub with_name_by : Option BatchValued → List ℕ → BatchSoFar → Option BatchSoFar
with_name_by None word a = with_check_word word a
with_name_by (Some option) word a = Some (record a { waiting = Some option })

abbrev pub with_valued_word : List ℕ → BatchSoFar → Option BatchSoFar
with_valued_word word a =
    if has_equals word
    then with_whole_by (lookup (bytes_eq (before_first (λ b. b == 61) word)) batch_valued) word a
    else with_name_by (lookup (bytes_eq word) batch_valued) word a

-- a word that is an option of `batch`, or else as `check` takes it
abbrev pub with_flag_by : Option BatchFlag → List ℕ → BatchSoFar → Option BatchSoFar
with_flag_by None word a = with_valued_word word a
with_flag_by (Some flag) word a = Some (record a { extras = with_batch_flag flag a.extras })

-- A word. Behind `--`, and where an option of `check` waits for its value, it is as `check` takes
-- it.
abbrev pub with_any_word : List ℕ → BatchSoFar → Option BatchSoFar
with_any_word word a =
    if a.check.names_only || is_some a.check.waiting then with_check_word word a
    else with_flag_by (lookup (bytes_eq word) batch_flags) word a

-- What is asked with one more word, by the option that waits; none where it is wrong there.
abbrev pub with_batch_by : Option BatchValued → List ℕ → BatchSoFar → Option BatchSoFar
with_batch_by (Some option) word a = with_extra_of option word (record a { waiting = None })
with_batch_by None word a = with_any_word word a

abbrev pub with_batch : List ℕ → BatchSoFar → Option BatchSoFar
with_batch word a = with_batch_by a.waiting word a

-- the same with some more words
abbrev pub with_batch_all : Option BatchSoFar → List (List ℕ) → Option BatchSoFar
with_batch_all a [] = a
with_batch_all a (word ∷ rest) = with_batch_all (option_and_then (with_batch word) a) rest

-- What `batch` is asked to do: the names of the traces and how to check them, as `check` is; and
-- what the other options say.
pub record BatchAsked : Type 0 where
  pub traces : List (List ℕ)
  pub options : Options
  pub extras : SaidExtras

-- there is some trace, or a list of them
abbrev pub has_some : List (List ℕ) → Option (List ℕ) → Bool
has_some [] list = is_some list
has_some (name ∷ names) list = true

-- The words of `check` are right by themselves, and ask these options for files: standard input is
-- none of the traces, and no side file is named.
pub record AreOfFiles (asked : Asked) (chosen : Options) : Type 0 where
  pub whole : asked.waiting ≡ None
  pub files : asked.has_input ≡ false
  pub no_side : asked.given.side ≡ None
  pub options : AreOptions asked.given chosen

-- It is asked to do this, where its words are right.
pub record IsBatch (asked : BatchSoFar) (batch : BatchAsked) : Type 0 where
  pub whole : asked.waiting ≡ None
  pub check : AreOfFiles asked.check batch.options
  pub traces : batch.traces ≡ asked.check.traces
  pub extras : AreExtras asked.extras batch.extras
  pub some : has_some batch.traces batch.extras.list ≡ true

-- The words behind `batch` ask it to do this.
abbrev pub AsksBatch : List (List ℕ) → BatchAsked → Type 0
AsksBatch words batch =
    (asked : BatchSoFar) × (with_batch_all (Some nothing_of_batch) words ≡ Some asked)
    × IsBatch asked batch
