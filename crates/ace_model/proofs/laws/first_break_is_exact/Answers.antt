use Rattle.std.proofs.Common.{◌≡◌, None, reverse, subst}
use Rattle.std.proofs.lemmas.List.{reverse-reverse}
use Rattle.ace_model.specs.Accepted.{first_break_by}
use Rattle.ace_model.proofs.Rules.FirstBreak.{first_break_is_first, first_is_first_break, no_break_accepted, accepted_no_break}
use Rattle.ace_model.proofs.laws.first_break_is_exact.Goals as goal

pub returns-clause-some : goal.returns-clause-some
returns-clause-some c = λ rs h events b order. (first_break_is_first rs h events b order, first_is_first_break rs h events b order)

pub returns-clause-none : goal.returns-clause-none
returns-clause-none c = λ rs h events.
    (no_break_accepted rs h events, λ a. subst (λ l. first_break_by rs h l ≡ None) (reverse-reverse events) (accepted_no_break rs h (reverse events) a))
