use Rattle.std.proofs.Common.{sym, subst}
use Rattle.ace_portck.specs.Targets.{Recording}
use Rattle.ace_portck.specs.Stands as ports
use Rattle.ace_lineck.specs.Stands as lines
use Rattle.ace_sysck.specs.Stands as system
use Rattle.ace_clauses.specs.declared.letters.Letter.TheVariants as letter
use Rattle.ace_explain.proofs.AtRule.{at_rule, sole_22}
use Rattle.ace_explain.proofs.clauses.read_clause.Goals as goal

pub returns-in-18 : goal.returns-in-18
returns-in-18 c = λ high low h past tell loads.
    let r : Recording = record { header = h; past = past } in
    at_rule r c.args.event.now c.args.rule 18 c.clause_of_k18.result c.in-18.is (c.clause_of_k18.ensures h past tell)

pub returns-in-19 : goal.returns-in-19
returns-in-19 c = λ high low h past tell loads.
    let r : Recording = record { header = h; past = past } in
    let p = subst (λ s. ports.Stands s r) (sym c.ports-ports.ensures) tell.ports in
    let l = subst (λ s. lines.Stands s r) (sym c.lines-lines.ensures) tell.lines in
    at_rule r c.args.event.now c.args.rule 19 c.clause_of_k19.result c.in-19.is (c.clause_of_k19.ensures r p l)

pub returns-in-20 : goal.returns-in-20
returns-in-20 c = λ high low h past tell loads.
    let r : Recording = record { header = h; past = past } in
    let p = subst (λ s. ports.Stands s r) (sym c.ports-ports.ensures) tell.ports in
    at_rule r c.args.event.now c.args.rule 20 c.clause_of_k20.result c.in-20.is (c.clause_of_k20.ensures r p)

pub returns-in-21 : goal.returns-in-21
returns-in-21 c = λ high low h past tell loads.
    let r : Recording = record { header = h; past = past } in
    let p = subst (λ s. ports.Stands s r) (sym c.ports-ports.ensures) tell.ports in
    let y = subst (λ s. system.Stands s r) (sym c.system.ensures) tell.system in
    at_rule r c.args.event.now c.args.rule 21 c.clause_of_k21.result c.in-21.is (c.clause_of_k21.ensures r p y)

pub returns-in-22 : goal.returns-in-22
returns-in-22 c = λ high low h past tell loads.
    let r : Recording = record { header = h; past = past } in
    at_rule r c.args.event.now c.args.rule 22 letter.A c.in-22.is (sole_22 r c.args.event.now)

pub returns-in-23 : goal.returns-in-23
returns-in-23 c = λ high low h past tell loads.
    let r : Recording = record { header = h; past = past } in
    let p = subst (λ s. ports.Stands s r) (sym c.ports-ports.ensures) tell.ports in
    let l = subst (λ s. lines.Stands s r) (sym c.lines-lines.ensures) tell.lines in
    at_rule r c.args.event.now c.args.rule 23 c.clause_of_k23.result c.in-23.is (c.clause_of_k23.ensures r p l)
