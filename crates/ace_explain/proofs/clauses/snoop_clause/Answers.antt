use Rattle.std.proofs.Common.{sym, subst}
use Rattle.ace_portck.specs.Targets.{Recording}
use Rattle.ace_portck.specs.Stands as ports
use Rattle.ace_lineck.specs.Stands as lines
use Rattle.ace_clauses.specs.declared.letters.Letter.TheVariants as letter
use Rattle.ace_explain.proofs.AtRule.{at_rule, sole_14}
use Rattle.ace_explain.proofs.clauses.snoop_clause.Goals as goal

pub returns-in-11 : goal.returns-in-11
returns-in-11 c = λ high low h past tell loads.
    let r : Recording = record { header = h; past = past } in
    let p = subst (λ s. ports.Stands s r) (sym c.ports-ports.ensures) tell.ports in
    at_rule r c.args.event.now c.args.rule 11 c.clause_of_k11.result c.in-11.is (c.clause_of_k11.ensures r p)

pub returns-in-12 : goal.returns-in-12
returns-in-12 c = λ high low h past tell loads.
    let r : Recording = record { header = h; past = past } in
    let p = subst (λ s. ports.Stands s r) (sym c.ports-ports.ensures) tell.ports in
    at_rule r c.args.event.now c.args.rule 12 c.clause_of_k12.result c.in-12.is (c.clause_of_k12.ensures r p)

pub returns-in-13 : goal.returns-in-13
returns-in-13 c = λ high low h past tell loads.
    let r : Recording = record { header = h; past = past } in
    at_rule r c.args.event.now c.args.rule 13 c.clause_of_k13.result c.in-13.is (c.clause_of_k13.ensures h past tell)

pub returns-in-14 : goal.returns-in-14
returns-in-14 c = λ high low h past tell loads.
    let r : Recording = record { header = h; past = past } in
    at_rule r c.args.event.now c.args.rule 14 letter.A c.in-14.is (sole_14 r c.args.event.now)

pub returns-in-15 : goal.returns-in-15
returns-in-15 c = λ high low h past tell loads.
    let r : Recording = record { header = h; past = past } in
    let p = subst (λ s. ports.Stands s r) (sym c.ports-ports.ensures) tell.ports in
    let l = subst (λ s. lines.Stands s r) (sym c.lines.ensures) tell.lines in
    at_rule r c.args.event.now c.args.rule 15 c.clause_of_k15.result c.in-15.is (c.clause_of_k15.ensures r p l)

pub returns-in-16 : goal.returns-in-16
returns-in-16 c = λ high low h past tell loads.
    let r : Recording = record { header = h; past = past } in
    let p = subst (λ s. ports.Stands s r) (sym c.ports-ports.ensures) tell.ports in
    at_rule r c.args.event.now c.args.rule 16 c.clause_of_k16.result c.in-16.is (c.clause_of_k16.ensures r p)

pub returns-in-17 : goal.returns-in-17
returns-in-17 c = λ high low h past tell loads.
    let r : Recording = record { header = h; past = past } in
    let p = subst (λ s. ports.Stands s r) (sym c.ports-ports.ensures) tell.ports in
    at_rule r c.args.event.now c.args.rule 17 c.clause_of_k17.result c.in-17.is (c.clause_of_k17.ensures r p)
