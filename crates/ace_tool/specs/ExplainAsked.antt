-- What the words behind `explain` ask.
use Rattle.std.specs.Prelude.{◌≡◌, ◌||◌, ℕ, Bool, if◌then◌else◌, List, [], ◌∷◌, Option, None, Some, is_some, codes, bytes_eq, option_and_then, option_map}
use Rattle.ace_tool.specs.Asked.{AreOptions, Asked, Options, nothing, with_more}
use Rattle.ace_tool.specs.declared.explain_words.Form.{Form}
use Rattle.ace_tool.specs.declared.explain_words.Form.TheVariants.{Whole, Short, Json}

-- What the words so far ask: what they ask `check`, and in which form it is told of the trace.
pub record ExplainSoFar : Type 0 where
  pub check : Asked
  pub form : Form

abbrev pub nothing_to_explain : ExplainSoFar
nothing_to_explain = record { check = nothing; form = Whole }

-- one form, which may be asked for again, and not another one
abbrev pub one_form : Form → Form → Option Form
one_form Whole form = Some form
one_form Short Short = Some Short
one_form Json Json = Some Json
one_form _ _ = None

abbrev pub with_form : Form → ExplainSoFar → Option ExplainSoFar
with_form form a = option_map (λ f. record a { form = f }) (one_form a.form form)

-- a word as `check` takes it
abbrev pub as_checked : List ℕ → ExplainSoFar → Option ExplainSoFar
as_checked word a = option_map (λ c. record a { check = c }) (with_more word a.check)

-- What is asked with one more word; none where it is wrong there. Behind `--`, and where an option
-- waits for its value, it is as `check` takes it.
abbrev pub explain_with : List ℕ → ExplainSoFar → Option ExplainSoFar
explain_with word a =
    if a.check.names_only || is_some a.check.waiting then as_checked word a
    else if bytes_eq word (codes "--short") then with_form Short a
    else if bytes_eq word (codes "--json") then with_form Json a else as_checked word a

-- the same with some more words
abbrev pub explain_with_all : Option ExplainSoFar → List (List ℕ) → Option ExplainSoFar
explain_with_all a [] = a
explain_with_all a (word ∷ rest) = explain_with_all (option_and_then (explain_with word) a) rest

-- What `explain` is asked: of which trace, in which form, and how to check it.
pub record ExplainAsked : Type 0 where
  pub trace : List ℕ
  pub form : Form
  pub options : Options

-- the one trace; where none is named, standard input is read
abbrev pub some_trace : Option (List ℕ) → List ℕ
some_trace None = codes "-"
some_trace (Some name) = name

abbrev pub one_trace : List (List ℕ) → Option (List ℕ)
one_trace [] = Some (codes "-")
one_trace (name ∷ []) = Some name
one_trace (name ∷ other ∷ names) = None

-- The words of `check` are right by themselves, and ask these options for this one trace.
pub record IsOfOne (asked : Asked) (trace : List ℕ) (chosen : Options) : Type 0 where
  pub whole : asked.waiting ≡ None
  pub named : one_trace asked.traces ≡ Some trace
  pub options : AreOptions asked.given chosen

-- It is asked to do this, where its words are right.
pub record IsExplain (asked : ExplainSoFar) (explain : ExplainAsked) : Type 0 where
  pub check : IsOfOne asked.check explain.trace explain.options
  pub form : explain.form ≡ asked.form

-- The words behind `explain` ask it to do this.
abbrev pub AsksExplain : List (List ℕ) → ExplainAsked → Type 0
AsksExplain words explain =
    (asked : ExplainSoFar) × (explain_with_all (Some nothing_to_explain) words ≡ Some asked)
    × IsExplain asked explain
