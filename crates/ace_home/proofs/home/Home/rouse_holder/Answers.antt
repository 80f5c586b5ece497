use Rattle.std.proofs.Common.{◌≡◌, true, false, Some, option_map, sym, ap, subst, ◌∙◌}
use Rattle.std.proofs.lemmas.Bool.{eq-eqb}
use Rattle.ace_model.specs.declared.transactions.Transaction.{Transaction}
use Rattle.ace_model.specs.Grants.{granted}
use Rattle.ace_model.proofs.General.Options.{Some-injective}
use Rattle.ace_home.specs.HeldUp.{IsHeldUp}
use Rattle.ace_home.specs.Resting.{has_port}
use Rattle.ace_home.proofs.home.Home.rouse_holder.Goals.{else-has-via-then-has+else-not-is_line_held_up, else-has-via-else-has}
use Rattle.ace_home.proofs.home.Home.rouse_holder.Goals as goal

pub returns-then-not-is_line_held_up-clause-holder : goal.returns-then-not-is_line_held_up-clause-holder
returns-then-not-is_line_held_up-clause-holder c = λ h past l y s on is rests.
    let same = Some-injective c.in-Some.line l (sym c.in-Some.is ∙ on) in
    let there : granted h past c.in-Some.line ≡ Some y = ap (granted h past) same ∙ is in
    let own : c.in-Some-holder.port ≡ y.port =
    Some-injective _ _ (sym c.in-Some-holder.is ∙ c.holder.ensures h past s ∙ ap (option_map (λ (v : Transaction). v.port)) there) in
    let bad : true ≡ false = sym (eq-eqb c.in-Some-holder.port y.port own) ∙ (c.remove.ensures.less y.port rests).1 in cc

pub returns-else-has-clause-holder : goal.returns-else-has-clause-holder
returns-else-has-clause-holder c = λ h past l y s on is rests.
    let same = Some-injective c.in-Some.line l (sym c.in-Some.is ∙ on) in
    let there : granted h past c.in-Some.line ≡ Some y = ap (granted h past) same ∙ is in
    let own : c.in-Some-holder.port ≡ y.port =
    Some-injective _ _ (sym c.in-Some-holder.is ∙ c.holder.ensures h past s ∙ ap (option_map (λ (v : Transaction). v.port)) there) in
    elim c.else-has.branch [
      | else-has-via-then-has+else-not-is_line_held_up w ↦ subst (IsHeldUp h past) same (w.is_line_held_up.ensures w.if-not-is_line_held_up.false h past s)
      | else-has-via-else-has w ↦
          let bad : true ≡ false = sym rests ∙ ap (has_port c.args.self.now.resting) (sym own) ∙ sym c.has.ensures ∙ w.if-has.false in cc
    ]
