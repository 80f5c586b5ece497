-- What an event tells of the line that is asked for.
use Rattle.std.proofs.Common.{◌≡◌, ℕ, Bool, true, false, List, Option, Some, refl, sym, ◌∙◌}
use Rattle.ace_belongs.specs.Belongs.{event_line}
use Rattle.ace_chart_rows.specs.Selected.{is_asked}
use Rattle.ace_chart_rows.specs.Values.{told_in, told_on}
use Rattle.ace_chart_rows.specs.declared.values.Told.{Told}
use Rattle.ace_chart_rows.specs.declared.values.Told.TheVariants.{Nothing}
use Rattle.ace_event.specs.declared.event.Event.{Event}
use Rattle.ace_event.specs.declared.header.Header.{Header}
use Rattle.ace_event.specs.declared.line.Line.{Line}
use Rattle.ace_model.specs.Trace.{Trace}

asked_here : (h : Header) (past : Trace) (line of_event : Option ℕ) (l : ℕ) (e : Event) (asked answer : Bool) → line ≡ Some l
    → asked ≡ is_asked (Some l) of_event → of_event ≡ event_line h past e → asked ≡ answer → is_asked (Some l) (event_line h past e) ≡ answer
asked_here h past line of_event l e asked answer is was same so = sym (rw same at was) ∙ so

pub told_of_asked : (h : Header) (past : Trace) (line of_event : Option ℕ) (l : ℕ) (values : List Line) (e : Event) (asked : Bool) (told : Told) → line ≡ Some l
    → asked ≡ is_asked (Some l) of_event → of_event ≡ event_line h past e → asked ≡ true → told ≡ told_in h past l values e
    → told ≡ told_on h past line values e
told_of_asked h past line of_event l values e asked told is was same so tells =
    let here = asked_here h past line of_event l e asked true is was same so in tells ∙ rw (is, here) refl

pub nothing_of_others : (h : Header) (past : Trace) (line of_event : Option ℕ) (l : ℕ) (values : List Line) (e : Event) (asked : Bool) → line ≡ Some l
    → asked ≡ is_asked (Some l) of_event → of_event ≡ event_line h past e → asked ≡ false → Nothing ≡ told_on h past line values e
nothing_of_others h past line of_event l values e asked is was same so =
    let here = asked_here h past line of_event l e asked false is was same so in rw (is, here) refl
