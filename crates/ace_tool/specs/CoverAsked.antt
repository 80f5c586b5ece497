-- What the words behind `cover` ask.
use Rattle.std.specs.Prelude.{◌≡◌, ◌||◌, ◌&&◌, ◌==◌, ◌++◌, ℕ, Bool, false, true, if◌then◌else◌, not, List, [], ◌∷◌, Option, None, Some, bytes_eq, codes, option_and_then, option_map}
use Rattle.std.specs.List.{after_first, before_first}
use Rattle.std.specs.Map.{lookup}
use Rattle.ace_tool.specs.Asked.{has_hyphen, is_input}
use Rattle.ace_tool.specs.BatchAsked.{has_some}
use Rattle.ace_tool.specs.CoverOptions.{CoverGiven, IsLeast, cover_flags, cover_valued, none_of_cover, with_cover_flag, with_cover_value}
use Rattle.ace_tool.specs.Covering.{CoverAsked}
use Rattle.ace_tool.specs.Options.{has_equals}
use Rattle.ace_tool.specs.declared.cover_options.CoverFlag.{CoverFlag}
use Rattle.ace_tool.specs.declared.cover_options.CoverValued.{CoverValued}

-- What the words so far ask: the names of files, whether standard input is one of them, the option
-- that waits for its value, whether all words that follow are names, and the options.
pub record CoverSoFar : Type 0 where
  pub names : List (List ℕ)
  pub has_input : Bool
  pub waiting : Option CoverValued
  pub names_only : Bool
  pub given : CoverGiven

abbrev pub nothing_of_cover : CoverSoFar
nothing_of_cover = record {
  names = [];
  has_input = false;
  waiting = None;
  names_only = false;
  given = none_of_cover;
}

-- a name; standard input is named once at most
abbrev pub with_cover_name : List ℕ → CoverSoFar → Option CoverSoFar
with_cover_name name a =
    if a.has_input && is_input name then None
    else Some (record a {
      names = a.names ++ name ∷ [];
      has_input = a.has_input || is_input name;
    })

-- the value of an option
abbrev pub with_cover_value_of : CoverValued → List ℕ → CoverSoFar → Option CoverSoFar
with_cover_value_of option value a =
    option_map (λ g. record a { given = g }) (with_cover_value option value a.given)

-- a word that is an option with its value
abbrev pub with_cover_whole : Option CoverValued → List ℕ → CoverSoFar → Option CoverSoFar
with_cover_whole None value a = None
with_cover_whole (Some option) value a = with_cover_value_of option value a

-- a word that is an option whose value is the next word
abbrev pub with_cover_waiting : Option CoverValued → CoverSoFar → Option CoverSoFar
with_cover_waiting None a = None
with_cover_waiting (Some option) a = Some (record a { waiting = Some option })

abbrev pub with_cover_valued : List ℕ → CoverSoFar → Option CoverSoFar
with_cover_valued word a =
    if has_equals word
    then with_cover_whole (lookup (bytes_eq (before_first (λ b. b == 61) word)) cover_valued)
    (after_first (λ b. b == 61) word) a
    else with_cover_waiting (lookup (bytes_eq word) cover_valued) a

-- a word that is an option
abbrev pub with_cover_flag_by : Option CoverFlag → List ℕ → CoverSoFar → Option CoverSoFar
with_cover_flag_by None word a = with_cover_valued word a
with_cover_flag_by (Some flag) word a = Some (record a { given = with_cover_flag flag a.given })

-- A word that is no value. Behind `--` each is a name, and before it each that doesn't begin with
-- `-`, and `-` itself.
abbrev pub with_cover_word : List ℕ → CoverSoFar → Option CoverSoFar
with_cover_word word a =
    if a.names_only then with_cover_name word a
    else if bytes_eq word (codes "--") then Some (record a { names_only = true })
    else if has_hyphen word && not (is_input word)
    then with_cover_flag_by (lookup (bytes_eq word) cover_flags) word a
    else with_cover_name word a

-- What is asked with one more word, by the option that waits; none where it is wrong there.
abbrev pub with_cover_by : Option CoverValued → List ℕ → CoverSoFar → Option CoverSoFar
with_cover_by (Some option) word a =
    with_cover_value_of option word (record a { waiting = None })
with_cover_by None word a = with_cover_word word a

abbrev pub with_cover : List ℕ → CoverSoFar → Option CoverSoFar
with_cover word a = with_cover_by a.waiting word a

-- the same with some more words
abbrev pub with_cover_all : Option CoverSoFar → List (List ℕ) → Option CoverSoFar
with_cover_all a [] = a
with_cover_all a (word ∷ rest) = with_cover_all (option_and_then (with_cover word) a) rest

-- the list is standard input
abbrev pub is_listed : Option (List ℕ) → Bool
is_listed None = false
is_listed (Some name) = is_input name

-- It is asked to do this, where its words are right: there is some file, or a list of them, and
-- standard input is not asked for twice, nor as counts.
pub record IsCover (a : CoverSoFar) (asked : CoverAsked) : Type 0 where
  pub whole : a.waiting ≡ None
  pub names : asked.names ≡ a.names
  pub list : asked.list ≡ a.given.list
  pub merge : asked.merge ≡ a.given.merge
  pub listing : asked.listing ≡ a.given.listing
  pub json : asked.json ≡ a.given.json
  pub least : IsLeast a.given.least asked.least
  pub some : has_some asked.names asked.list ≡ true
  pub once : (a.has_input && (is_listed a.given.list || a.given.merge)) ≡ false

-- The words behind `cover` ask it to do this.
abbrev pub AsksCover : List (List ℕ) → CoverAsked → Type 0
AsksCover words asked =
    (a : CoverSoFar) × (with_cover_all (Some nothing_of_cover) words ≡ Some a) × IsCover a asked
