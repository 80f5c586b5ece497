use Rattle.std.proofs.Common.{◌≡◌, true, false, sym, ◌∙◌}
use Rattle.std.proofs.lemmas.Bool.{eq-eqb, eqb-true}
use Rattle.ace_lineck.proofs.SnoopData.{earlier-still}
use Rattle.ace_lineck.proofs.lines.LineCheck.hear_sent.Goals as goal

pub returns-then-is_fourth-clause-stands : goal.returns-then-is_fourth-clause-stands
returns-then-is_fourth-clause-stands c = λ r z last word s is beat at fine few.
    c.hear_fourth.ensures.stands r z last word s is (sym beat ∙ eqb-true c.args.beat 3 (sym c.is_fourth.ensures ∙ c.if-is_fourth.true)) at fine few

pub returns-else-is_fourth-clause-stands : goal.returns-else-is_fourth-clause-stands
returns-else-is_fourth-clause-stands c = λ r z last word s is beat at fine few.
    earlier-still c.args.self.now r c.args.port last word
    (λ four. let bad : true ≡ false = sym (eq-eqb c.args.beat 3 (beat ∙ four)) ∙ sym c.is_fourth.ensures ∙ c.if-is_fourth.false in cc) s fine
