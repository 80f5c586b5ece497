use Rattle.std.proofs.Common.{◌≡◌, ◌&&◌, not, Some, sym, ap, subst, ◌∙◌}
use Rattle.std.specs.List.{list_any}
use Rattle.std.proofs.Math.Bool.{and-false}
use Rattle.std.proofs.lemmas.Bool.{not-true}
use Rattle.ace_model.specs.Grants.{granted, is_begun, ports_below}
use Rattle.ace_model.specs.Trace.{is_some_and}
use Rattle.ace_portck.specs.Targets.{Recording}
use Rattle.ace_lineck.specs.Stands.{Stands, place_on}
use Rattle.ace_home.specs.HeldUp.{is_left}
use Rattle.ace_home.proofs.home.Home.awaits_acknowledge.Goals as goal

pub returns : goal.returns
returns c = λ unstuck h past s place.
    let r : Recording = record { header = h; past = past } in
    let line = c.args.line in
    let x = c.in-Some.x in
    let lines : Stands c.lines.result.now r = subst (λ v. Stands v r) (sym c.lines.ensures) s.tell.lines in
    let at : c.args.place ≡ place_on c.lines.result.now (Some line) = place ∙ ap (λ v. place_on v (Some line)) (sym c.lines.ensures) in
    let g : granted h past line ≡ Some x = sym (c.granted_transaction.ensures r line lines at) ∙ c.in-Some.is in
    let none = c.has_left.ensures c.if-has_left.false h past s place g in record {
      undone = c.is_undone.ensures c.if-not-is_undone.false h past line s place g;
      snooped =
          ap (λ o. is_some_and o (λ y. not (is_begun past y) && list_any (is_left h past line y) (ports_below h.ports))) g
          ∙ ap (λ b. not (is_begun past x) && b) none ∙ and-false (not (is_begun past x));
      unstuck = c.is_stuck.ensures (not-true c.is_stuck.result unstuck) h past line s place;
    }
