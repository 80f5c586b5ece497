use Rattle.std.proofs.Common.{sym, subst}
use Rattle.ace_portck.specs.Targets.{Recording}
use Rattle.ace_portck.specs.Stands as ports
use Rattle.ace_lineck.specs.Stands as lines
use Rattle.ace_clauses.specs.declared.letters.Letter.TheVariants as letter
use Rattle.ace_explain.proofs.AtRule.{at_rule, sole_27}
use Rattle.ace_explain.proofs.clauses.write_clause.Goals as goal

pub returns-in-24 : goal.returns-in-24
returns-in-24 c = λ high low h past tell loads.
    let r : Recording = record { header = h; past = past } in
    let p = subst (λ s. ports.Stands s r) (sym c.ports-ports.ensures) tell.ports in
    let l = subst (λ s. lines.Stands s r) (sym c.lines.ensures) tell.lines in
    at_rule r c.args.event.now c.args.rule 24 c.clause_of_k24.result c.in-24.is (c.clause_of_k24.ensures r p l)

pub returns-in-25 : goal.returns-in-25
returns-in-25 c = λ high low h past tell loads.
    let r : Recording = record { header = h; past = past } in
    let p = subst (λ s. ports.Stands s r) (sym c.ports-ports.ensures) tell.ports in
    at_rule r c.args.event.now c.args.rule 25 c.clause_of_k25.result c.in-25.is (c.clause_of_k25.ensures r p)

pub returns-in-26 : goal.returns-in-26
returns-in-26 c = λ high low h past tell loads.
    let r : Recording = record { header = h; past = past } in
    let p = subst (λ s. ports.Stands s r) (sym c.ports-ports.ensures) tell.ports in
    at_rule r c.args.event.now c.args.rule 26 c.clause_of_k26.result c.in-26.is (c.clause_of_k26.ensures r p)

pub returns-in-27 : goal.returns-in-27
returns-in-27 c = λ high low h past tell loads.
    let r : Recording = record { header = h; past = past } in
    at_rule r c.args.event.now c.args.rule 27 letter.A c.in-27.is (sole_27 r c.args.event.now)

pub returns-in-28 : goal.returns-in-28
returns-in-28 c = λ high low h past tell loads.
    let r : Recording = record { header = h; past = past } in
    let p = subst (λ s. ports.Stands s r) (sym c.ports-ports.ensures) tell.ports in
    at_rule r c.args.event.now c.args.rule 28 c.clause_of_k28.result c.in-28.is (c.clause_of_k28.ensures r p)
