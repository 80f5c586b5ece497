use Rattle.std.proofs.Common.{◌≡◌, ◌&&◌, true, Some, is_some, sym, ap, subst, ◌∙◌}
use Rattle.std.specs.List.{list_any}
use Rattle.std.proofs.lemmas.Bool.{and_from, or_left, or_right}
use Rattle.ace_model.specs.Grants.{ports_below}
use Rattle.ace_model.specs.Trace.{is_some_and}
use Rattle.ace_model.specs.Transactions.{snoop_of}
use Rattle.ace_portck.specs.Targets.{Recording}
use Rattle.ace_lineck.specs.Stands.{Stands, place_on}
use Rattle.ace_lineck.specs.Waiting.{is_answering}
use Rattle.ace_home.specs.HeldUp.{has_unsnooped_holder, is_unsnooped_holder}
use Rattle.ace_home.proofs.home.Home.is_undone.Goals as goal

pub returns-then-is_answering : goal.returns-then-is_answering
returns-then-is_answering c = λ _ h past l s place g.
    let r : Recording = record { header = h; past = past } in
    let lines : Stands c.lines.result.now r = subst (λ v. Stands v r) (sym c.lines.ensures) s.tell.lines in
    let at : c.args.place ≡ place_on c.lines.result.now (Some l) = place ∙ ap (λ v. place_on v (Some l)) (sym c.lines.ensures) in
    or_left (is_answering h past l) (has_unsnooped_holder h past l) (sym (c.is_answering.ensures r l lines at) ∙ c.if-is_answering.true)

pub returns : goal.returns
returns c = λ found h past l s place g.
    let causes : is_some (snoop_of c.args.x.now) ≡ true = ap (λ o. is_some o) (sym c.snoop_of.ensures ∙ c.in-Some.is) in
    or_right (is_answering h past l) (has_unsnooped_holder h past l)
    (ap (λ o. is_some_and o (λ y. is_some (snoop_of y) && list_any (is_unsnooped_holder h past l y) (ports_below h.ports))) g
    ∙ and_from _ _ causes (c.has_unsnooped_holder.ensures found h past l s place g))
