use Rattle.std.proofs.Common.{◌≡◌, Some, sym, ap, subst, ◌∙◌}
use Rattle.std.proofs.lemmas.Bool.{not-true, or_left}
use Rattle.ace_portck.specs.Targets.{Recording}
use Rattle.ace_lineck.specs.Stands.{Stands, place_on}
use Rattle.ace_lineck.specs.Waiting.{is_answering}
use Rattle.ace_home.specs.HeldUp.{has_unsnooped_holder}
use Rattle.ace_home.proofs.HeldUp.{snooped-none-left}
use Rattle.ace_home.proofs.home.Home.awaits_answer.Goals as goal

pub returns : goal.returns
returns c = λ unstuck h past l s place snooped.
    let r : Recording = record { header = h; past = past } in
    let lines : Stands c.lines.result.now r = subst (λ v. Stands v r) (sym c.lines.ensures) s.tell.lines in
    let at : c.args.place ≡ place_on c.lines.result.now (Some l) = place ∙ ap (λ v. place_on v (Some l)) (sym c.lines.ensures) in record {
      undone = or_left (is_answering h past l) (has_unsnooped_holder h past l) (sym (c.is_answering.ensures r l lines at) ∙ c.if-not-is_answering.false);
      snooped = snooped-none-left h past l snooped;
      unstuck = c.is_stuck.ensures (not-true c.is_stuck.result unstuck) h past l s place;
    }
