use Rattle.std.proofs.Common.{◌≡◌, arith, sym, subst}
use Rattle.std.proofs.lemmas.Grind.{common_steps}
use Rattle.ace_portck.specs.Targets.{Recording}
use Rattle.ace_portck.specs.Stands as ports
use Rattle.ace_sysck.specs.Stands as system
use Rattle.ace_clauses.specs.declared.letters.Letter.TheVariants as letter
use Rattle.ace_explain.proofs.AtRule.{at_rule, sole_4, sole_5, sole_6, sole_8, no_rule, none_before}
use Rattle.ace_explain.proofs.clauses.address_clause.Goals as goal

pub returns-in-1 : goal.returns-in-1
returns-in-1 c = λ low h past tell loads.
    let r : Recording = record { header = h; past = past } in
    let p = subst (λ s. ports.Stands s r) (sym c.ports-ports.ensures) tell.ports in
    at_rule r c.args.event.now c.args.rule 1 c.clause_of_k1.result c.in-1.is (c.clause_of_k1.ensures r (c.header.ensures r p))

pub returns-in-2 : goal.returns-in-2
returns-in-2 c = λ low h past tell loads.
    let r : Recording = record { header = h; past = past } in
    at_rule r c.args.event.now c.args.rule 2 c.clause_of_k2.result c.in-2.is (c.clause_of_k2.ensures r)

pub returns-in-3 : goal.returns-in-3
returns-in-3 c = λ low h past tell loads.
    let r : Recording = record { header = h; past = past } in
    let p = subst (λ s. ports.Stands s r) (sym c.ports-ports.ensures) tell.ports in
    at_rule r c.args.event.now c.args.rule 3 c.clause_of_k3.result c.in-3.is (c.clause_of_k3.ensures r p)

pub returns-in-4 : goal.returns-in-4
returns-in-4 c = λ low h past tell loads.
    let r : Recording = record { header = h; past = past } in
    at_rule r c.args.event.now c.args.rule 4 letter.A c.in-4.is (sole_4 r c.args.event.now)

pub returns-in-5 : goal.returns-in-5
returns-in-5 c = λ low h past tell loads.
    let r : Recording = record { header = h; past = past } in
    at_rule r c.args.event.now c.args.rule 5 letter.A c.in-5.is (sole_5 r c.args.event.now)

pub returns-in-6 : goal.returns-in-6
returns-in-6 c = λ low h past tell loads.
    let r : Recording = record { header = h; past = past } in
    at_rule r c.args.event.now c.args.rule 6 letter.A c.in-6.is (sole_6 r c.args.event.now)

pub returns-in-7 : goal.returns-in-7
returns-in-7 c = λ low h past tell loads.
    let r : Recording = record { header = h; past = past } in
    let p = subst (λ s. ports.Stands s r) (sym c.ports-ports.ensures) tell.ports in
    at_rule r c.args.event.now c.args.rule 7 c.clause_of_k7.result c.in-7.is (c.clause_of_k7.ensures r (c.header-in-7.ensures r p))

pub returns-in-8 : goal.returns-in-8
returns-in-8 c = λ low h past tell loads.
    let r : Recording = record { header = h; past = past } in
    at_rule r c.args.event.now c.args.rule 8 letter.A c.in-8.is (sole_8 r c.args.event.now)

pub returns-in-9 : goal.returns-in-9
returns-in-9 c = λ low h past tell loads.
    let r : Recording = record { header = h; past = past } in
    let p = subst (λ s. ports.Stands s r) (sym c.ports-ports.ensures) tell.ports in
    let y = subst (λ s. system.Stands s r) (sym c.system.ensures) tell.system in
    at_rule r c.args.event.now c.args.rule 9 c.clause_of_k9.result c.in-9.is (c.clause_of_k9.ensures r p y)

pub returns-in-10 : goal.returns-in-10
returns-in-10 c = λ low h past tell loads.
    let r : Recording = record { header = h; past = past } in
    at_rule r c.args.event.now c.args.rule 10 c.clause_of_k10.result c.in-10.is (c.clause_of_k10.ensures r)

pub returns-in_default : goal.returns-in_default
returns-in_default c = λ low h past tell loads.
    let r : Recording = record { header = h; past = past } in
    let out : c.args.rule ≡ 0 = grind (arith, common_steps) in
    no_rule r c.args.event.now c.args.rule (none_before c.args.rule out)
