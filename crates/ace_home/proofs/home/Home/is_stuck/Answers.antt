use Rattle.std.proofs.Common.{◌≡◌, Some, sym, ap, subst, ◌∙◌}
use Rattle.std.proofs.lemmas.Bool.{not-false}
use Rattle.ace_model.specs.Grants.{granted}
use Rattle.ace_model.proofs.Trace.Looks.{is_on-addr}
use Rattle.ace_portck.specs.Targets.{Recording}
use Rattle.ace_lineck.proofs.GrantFrame.{line-of_granted}
use Rattle.ace_lineck.specs.Stands.{Stands, place_on}
use Rattle.ace_home.proofs.HeldUp.{free-unstuck, taking-unstuck, unpassed-unstuck, write-unstuck}
use Rattle.ace_home.proofs.home.Home.is_stuck.Goals as goal

pub returns-then-not-has_passed_data : goal.returns-then-not-has_passed_data
returns-then-not-has_passed_data c = λ _ h past l s place.
    let r : Recording = record { header = h; past = past } in
    let lines : Stands c.lines-lines.result.now r = subst (λ v. Stands v r) (sym c.lines-lines.ensures) s.tell.lines in
    let at : c.args.place ≡ place_on c.lines-lines.result.now (Some l) = place ∙ ap (λ v. place_on v (Some l)) (sym c.lines-lines.ensures) in
    unpassed-unstuck h past l (sym (c.has_passed_data.ensures r l lines at) ∙ c.if-not-has_passed_data.true)

pub returns-in-None : goal.returns-in-None
returns-in-None c = λ _ h past l s place.
    let r : Recording = record { header = h; past = past } in
    let lines : Stands c.lines-lines.result.now r = subst (λ v. Stands v r) (sym c.lines-lines.ensures) s.tell.lines in
    let at : c.args.place ≡ place_on c.lines-lines.result.now (Some l) = place ∙ ap (λ v. place_on v (Some l)) (sym c.lines-lines.ensures) in
    free-unstuck h past l (sym c.in-None.is ∙ c.granted_transaction.ensures r l lines at)

pub returns-in-Read : goal.returns-in-Read
returns-in-Read c = λ takes h past l s place.
    let r : Recording = record { header = h; past = past } in
    let x = c.in-Some.x in
    let lines : Stands c.lines-lines.result.now r = subst (λ v. Stands v r) (sym c.lines-lines.ensures) s.tell.lines in
    let at : c.args.place ≡ place_on c.lines-lines.result.now (Some l) = place ∙ ap (λ v. place_on v (Some l)) (sym c.lines-lines.ensures) in
    let is : Some x ≡ granted h past l = sym c.in-Some.is ∙ c.granted_transaction.ensures r l lines at in
    let addr = is_on-addr x l (line-of_granted h past l s.tell.lines.accepted x (sym is)).1 in
    let there : c.args.place ≡ place_on c.lines-lines.result.now (Some x.addr) = at ∙ ap (λ m. place_on c.lines-lines.result.now (Some m)) (sym addr) in
    let own : granted h past x.addr ≡ Some x = ap (granted h past) addr ∙ sym is in
    taking-unstuck h past l x is (sym (c.can_take_passed_data.ensures r lines there own) ∙ not-false c.can_take_passed_data.result takes)

pub returns-in-Write : goal.returns-in-Write
returns-in-Write c = λ _ h past l s place.
    let r : Recording = record { header = h; past = past } in
    let lines : Stands c.lines-lines.result.now r = subst (λ v. Stands v r) (sym c.lines-lines.ensures) s.tell.lines in
    let at : c.args.place ≡ place_on c.lines-lines.result.now (Some l) = place ∙ ap (λ v. place_on v (Some l)) (sym c.lines-lines.ensures) in
    write-unstuck h past l c.in-Some.x (sym c.in-Some.is ∙ c.granted_transaction.ensures r l lines at) c.in-Write.is
