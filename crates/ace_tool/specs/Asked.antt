-- What the words behind `check` ask.
use Rattle.std.specs.Prelude.{◌≡◌, ◌++◌, ◌-◌, ◌^◌, ◌||◌, ◌&&◌, ◌==◌, ℕ, Bool, true, false, if◌then◌else◌, not, min, nat_le, List, [], ◌∷◌, length, Option, None, Some, codes, bytes_eq, option_and_then, option_map}
use Rattle.std.specs.List.{before_first, after_first}
use Rattle.std.specs.Map.{lookup}
use Rattle.ace_call.specs.Number.{IsNumber}
use Rattle.ace_grammar.specs.Reading.{most_counted}
use Rattle.ace_verdict.specs.declared.limits.Limits.{Limits}
use Rattle.ace_tool.specs.Options.{Given, flags, has_equals, none_given, valued, with_flag, with_value}
use Rattle.ace_tool.specs.declared.check_options.EndRules.{EndRules}
use Rattle.ace_tool.specs.declared.options.Flag.{Flag}
use Rattle.ace_tool.specs.declared.options.Valued.{Valued}

-- What the words so far ask: the names of traces in their order, and options. Standard input may be
-- one of the traces; `--` may have come, behind which all words are names; and an option may wait
-- for its value, which is the next word.
pub record Asked : Type 0 where
  pub traces : List (List ℕ)
  pub has_input : Bool
  pub names_only : Bool
  pub waiting : Option Valued
  pub given : Given

abbrev pub nothing : Asked
nothing = record {
  traces = [];
  has_input = false;
  names_only = false;
  waiting = None;
  given = none_given;
}

-- the word is the name of standard input
abbrev pub is_input : List ℕ → Bool
is_input word = bytes_eq word (codes "-")

-- the word begins with `-`
abbrev pub has_hyphen : List ℕ → Bool
has_hyphen [] = false
has_hyphen (first ∷ rest) = first == 45

-- one more trace; standard input can be read once
abbrev pub with_trace : Asked → List ℕ → Option Asked
with_trace a word =
    if a.has_input && is_input word then None
    else Some (record a {
      traces = a.traces
          ++ word ∷ [];
      has_input = a.has_input || is_input word;
    })

-- what is asked with these options, if they are right
abbrev pub with_given : Asked → Option Given → Option Asked
with_given a given = option_map (λ g. record a { given = g }) given

-- the value of an option
abbrev pub with_value_of : Option Valued → List ℕ → Asked → Option Asked
with_value_of None value a = None
with_value_of (Some option) value a = with_given a (with_value option value a.given)

-- the name of an option, whose value is the next word
abbrev pub with_name_of : Option Valued → Asked → Option Asked
with_name_of None a = None
with_name_of (Some option) a = Some (record a { waiting = Some option })

-- an option that has a value
abbrev pub with_valued : List ℕ → Asked → Option Asked
with_valued word a =
    if has_equals word
    then with_value_of (lookup (bytes_eq (before_first (λ b. b == 61) word)) valued)
    (after_first (λ b. b == 61) word) a
    else with_name_of (lookup (bytes_eq word) valued) a

-- an option
abbrev pub with_option_by : Option Flag → List ℕ → Asked → Option Asked
with_option_by (Some flag) word a = Some (record a { given = with_flag flag a.given })
with_option_by None word a = with_valued word a

abbrev pub with_option : List ℕ → Asked → Option Asked
with_option word a = with_option_by (lookup (bytes_eq word) flags) word a

-- A word that is no value. Before `--` those that begin with `-` are options, but `-` is a name.
abbrev pub with_word : List ℕ → Asked → Option Asked
with_word word a =
    if a.names_only then with_trace a word
    else if bytes_eq word (codes "--") then Some (record a { names_only = true })
    else if has_hyphen word && not (is_input word) then with_option word a else with_trace a word

-- What is asked with one more word, by the option that waits; none where it is wrong there.
abbrev pub with_more_by : Option Valued → List ℕ → Asked → Option Asked
with_more_by (Some option) word a =
    with_value_of (Some option) word (record a { waiting = None })
with_more_by None word a = with_word word a

abbrev pub with_more : List ℕ → Asked → Option Asked
with_more word a = with_more_by a.waiting word a

-- the same with some more words
abbrev pub with_all : Option Asked → List (List ℕ) → Option Asked
with_all a [] = a
with_all a (word ∷ rest) = with_all (option_and_then (with_more word) a) rest

-- where the side file of a trace is: beside it, in this file, or nowhere
pub data SideAsked : Type 0 where
  Beside : SideAsked
  Named : List ℕ → SideAsked
  Nowhere : SideAsked

-- what the options of `check` say
pub record Options : Type 0 where
  pub limits : Limits
  pub side : SideAsked
  pub ends : EndRules

-- What `check` is asked to do: the names of the traces, and how to check them.
pub record CheckAsked : Type 0 where
  pub traces : List (List ℕ)
  pub options : Options

-- where no trace is named, standard input is read
abbrev pub some_traces : List (List ℕ) → List (List ℕ)
some_traces [] = codes "-" ∷ []
some_traces (name ∷ names) = name ∷ names

-- The word of an option says this limit, up to the most; without one there is none below it.
abbrev pub IsLimit : ℕ → Option (List ℕ) → ℕ → Type 0
IsLimit most None limit = limit ≡ most
IsLimit most (Some word) limit = (number : ℕ) × IsNumber word number × (limit ≡ min number most)

-- What the words of `--side` and `--no-side` say. A side file is no standard input.
abbrev pub side_said : Option (List ℕ) → Bool → Option SideAsked
side_said None true = Some Nowhere
side_said None false = Some Beside
side_said (Some name) true = None
side_said (Some name) false = if is_input name then None else Some (Named name)

-- so many traces may be named: a side file that is named is that of one trace
abbrev pub may_have : SideAsked → ℕ → Bool
may_have (Named name) count = nat_le count 1
may_have side count = true

-- These options are said.
pub record AreOptions (given : Given) (options : Options) : Type 0 where
  pub events : IsLimit most_counted given.most_events options.limits.events
  pub lines : IsLimit (2 ^ 64 - 1) given.most_lines options.limits.lines
  pub side : side_said given.side given.no_side ≡ Some options.side
  pub ends : options.ends ≡ given.ends

-- It is asked to do this, where its words are right.
pub record IsChecked (asked : Asked) (check : CheckAsked) : Type 0 where
  pub whole : asked.waiting ≡ None
  pub traces : check.traces ≡ some_traces asked.traces
  pub options : AreOptions asked.given check.options
  pub fits : may_have check.options.side (length asked.traces) ≡ true

-- The words behind `check` ask it to do this.
abbrev pub AsksCheck : List (List ℕ) → CheckAsked → Type 0
AsksCheck words check =
    (asked : Asked) × (with_all (Some nothing) words ≡ Some asked) × IsChecked asked check
