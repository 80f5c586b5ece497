-- What is read in the place of a side file tells this of a refused trace.
use Rattle.std.proofs.Common.{◌≡◌, ◌∷◌, ℕ, Bool, List, [], Option, None, Some, Result, Ok, Err, IfSome, inl, inr, refl, subst, sym, option_to_list}
use Rattle.ace_explanation.specs.Refusals.{shown_events}
use Rattle.ace_explanation.specs.declared.refusal.Refusal.{Refusal}
use Rattle.ace_side_facts.specs.Facts.{TellsOf}
use Rattle.ace_side_facts.specs.declared.facts.SideFacts.{SideFacts}
use Rattle.ace_side_facts.specs.declared.query.Query.{Query}
use Rattle.ace_tool.specs.Beside.{IsReadAt, IsToldOf, TellsAt}
use Rattle.ace_tool.specs.Held.{Held, told_of}
use Rattle.ace_tool.specs.declared.side.SideFault.{SideFault}

pub tells_at : (held : Held) (file : List ℕ) (must : Bool) (r : Refusal) (query : Query) (read : Result (Option SideFacts) SideFault)
    (f : SideFacts) → query.events.now ≡ shown_events r → query.notes.now ≡ r.index ∷ []
    → query.lines.now ≡ option_to_list r.led.line → IsReadAt held must query read → IsToldOf file read f → TellsAt held file must r f
tells_at held file must r query (Ok None) f events notes lines is told = inl (is.0, is.1, told)
tells_at held file must r query (Ok (Some g)) f events notes lines is told =
    inr (inl (
      query,
      record { events = events; notes = notes; lines = lines },
      subst (λ f. IfSome (told_of held) (λ bytes. TellsOf query bytes f)) (sym told) is,
    ))
tells_at held file must r query (Err fault) f events notes lines is told = inr (inr (fault, is, told.0, told.1))

pub ruleset beside = (tells_at)
