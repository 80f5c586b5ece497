-- The line that is chosen.
use Rattle.std.proofs.Common.{◌≡◌, ◌<◌, ◌≤◌, ℕ, ◌+◌, ◌++◌, List, [], ◌∷◌, Option, Some, None, get_or, length, reverse, take, drop, ap, refl, subst, sym, ◌-◌, ◌^◌, ◌∙◌}
use Rattle.std.proofs.lemmas.List.{drop_all, drop_more}
use Rattle.ace_check.specs.Run.{StandsWithin}
use Rattle.ace_check.specs.declared.checker.Checker.{Checker}
use Rattle.ace_chart_rows.proofs.Following.{front_of, newest}
use Rattle.ace_chart_rows.specs.Fed.{HasFed}
use Rattle.ace_model.specs.Trace.{newer}
use Rattle.ace_belongs.specs.Belongs.{event_line}
use Rattle.ace_chart_rows.specs.Choice.{IsChosen, first_line}
use Rattle.ace_event.specs.declared.event.Event.{Event}
use Rattle.ace_event.specs.declared.header.Header.{Header}
use Rattle.ace_model.specs.Accepted.{IsAccepted, least_broken}

pub chosen_at_break : (h : Header) (events : List Event) (i : ℕ) (d : Event) (line : Option ℕ) (before after : Checker) (k : ℕ) → i < length events
    → StandsWithin (2 ^ 64 - 1) before h (reverse (take i events)) None
    → HasFed h (reverse (take i events)) (get_or events i d) after (Some k)
    → line ≡ event_line h (reverse (take i events)) (get_or events i d) → IsChosen h events line
chosen_at_break h events i d line before after k within stood (b, stands, broken) is = record {
  past = reverse (take i events);
  rest = get_or events i d ∷ drop (i + 1) events;
  front = front_of events i ∙ ap (λ t. reverse (reverse (take i events)) ++ t) (drop_more events i d within);
  accepted = stood.tell.lines.accepted;
  chosen = (k, broken, is);
}

pub chosen_next : (h : Header) (events : List Event) (i : ℕ) (d : Event) (line first new : Option ℕ) (c : Checker) → i < length events
    → HasFed h (reverse (take i events)) (get_or events i d) c None
    → first ≡ first_line h (reverse (take i events)) → line ≡ event_line h (reverse (take i events)) (get_or events i d) → new ≡ newer first line
    → StandsWithin (2 ^ 64 - 1) c h (reverse (take (i + 1) events)) None × (new ≡ first_line h (reverse (take (i + 1) events)))
chosen_next h events i d line first new c within fed before is one =
    subst (λ t. StandsWithin (2 ^ 64 - 1) c h t None × (new ≡ first_line h t)) (sym (newest events i d within)) (fed, one ∙ rw (before, is) refl)
