use Rattle.std.proofs.Common.{sym, ap, subst, ◌||◌, ◌∙◌, nat_lt}
use Rattle.std.proofs.lemmas.Bool.{eq-eqb, ne_eqb}
use Rattle.ace_model.specs.Trace.{is_some_and}
use Rattle.ace_sysck.specs.Barriers.{TellsOpenPair}
use Rattle.ace_order.proofs.Waits.{incomplete-waits, unordered-waits}
use Rattle.ace_order.proofs.waiting.has_to_wait.Goals as goal

pub returns-then-pair-eq3 : goal.returns-then-pair-eq3
returns-then-pair-eq3 c = λ is r ports system.
    let p = c.args.port in
    let o = c.in-Some.pair in
    let tells = subst (TellsOpenPair r.past p) c.in-Some.is (c.open_pair.ensures r system) in
    let low = ap (λ v. is_some_and v (λ n. nat_lt n o.read.place || nat_lt n o.write.place)) (sym (c.first_incomplete.ensures r ports)) ∙ sym c.is_before.ensures ∙ is in
    incomplete-waits r.past p o tells (eq-eqb o.read.bar 3 c.if-pair-eq3.true) low

pub returns-else-pair-eq3 : goal.returns-else-pair-eq3
returns-else-pair-eq3 c = λ is r ports system.
    let p = c.args.port in
    let o = c.in-Some.pair in
    let tells = subst (TellsOpenPair r.past p) c.in-Some.is (c.open_pair.ensures r system) in
    let low = ap (λ v. is_some_and v (λ n. nat_lt n o.read.place || nat_lt n o.write.place)) (sym (c.first_unordered.ensures r ports)) ∙ sym c.is_before-else-pair-eq3.ensures ∙ is in
    unordered-waits r.past p o tells (ne_eqb o.read.bar 3 c.if-pair-eq3.false) low
