-- What was asked by words of the command line, as the structs of the program keep it.
use Rattle.std.specs.Prelude.{ℕ, Bool, if◌then◌else◌, List, Option, None, Some, map, MatchOption}
use Rattle.std.specs.Borrow.{Bor}
use Rattle.ace_tool.specs.Asked.{Asked, Beside, CheckAsked, Named, Nowhere, Options, SideAsked}
use Rattle.ace_tool.specs.Options.{Given}
use Rattle.ace_tool.specs.ExplainAsked.{ExplainAsked}
use Rattle.ace_tool.specs.Requests.{Asks, Wish}
use Rattle.ace_tool.specs.Requests as wish
use Rattle.ace_tool.specs.declared.check_call.CheckCall.{CheckCall}
use Rattle.ace_tool.specs.declared.check_options.CheckOptions.{CheckOptions}
use Rattle.ace_tool.specs.declared.check_options.SideChoice.{SideChoice}
use Rattle.ace_tool.specs.declared.check_options.SideChoice.TheVariants as choice
use Rattle.ace_tool.specs.declared.explain_words.ExplainCall.{ExplainCall}
use Rattle.ace_tool.specs.declared.request.Request.{Request}
use Rattle.ace_tool.specs.declared.request.Request.TheVariants.{Help, HelpOfCheck, HelpOfExplain, HelpOfRule, Version, Check, Explain, Pages}

-- what is asked so far, where the word was right there
abbrev pub if_right : Bool → Asked → Option Asked
if_right right asked = if right then Some asked else None

-- the same of whatever the words ask
abbrev pub if_taken : {A : Type 0} → Bool → A → Option A
if_taken taken asked = if taken then Some asked else None

-- the same of an option
abbrev pub if_given : Bool → Given → Option Given
if_given right given = if right then Some given else None

abbrev pub side_of : SideChoice → SideAsked
side_of choice.Beside = Beside
side_of (choice.Named name) = Named name.now
side_of choice.Nowhere = Nowhere

abbrev pub options_of : CheckOptions → Options
options_of o = record { limits = o.limits; side = side_of o.side; ends = o.ends }

-- what is asked by these options of the traces of these names
abbrev pub asked_of : CheckOptions → List (Bor (List ℕ)) → CheckAsked
asked_of options names = record {
  traces = map (λ name. name.now) names;
  options = options_of options;
}

abbrev pub check_of : CheckCall → CheckAsked
check_of call = asked_of call.options call.traces.items

abbrev pub explain_of : ExplainCall → ExplainAsked
explain_of call = record {
  trace = call.trace.now;
  form = call.form;
  options = options_of call.options;
}

abbrev pub wish_of : Request → Wish
wish_of Help = wish.Help
wish_of HelpOfCheck = wish.HelpOfCheck
wish_of HelpOfExplain = wish.HelpOfExplain
wish_of HelpOfRule = wish.HelpOfRule
wish_of Version = wish.Version
wish_of (Check call) = wish.Check (check_of call)
wish_of (Explain call) = wish.Explain (explain_of call)
wish_of (Pages text) = wish.Pages text.items

-- It is what the words ask, or they ask nothing.
abbrev pub IsRequest : List (List ℕ) → Option Request → Type 0
IsRequest words request =
    MatchOption request ((wish : Wish) → ¬ Asks words wish) (λ r. Asks words (wish_of r))
