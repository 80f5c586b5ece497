use Rattle.std.proofs.Common.{◌<◌, arith, sym, subst}
use Rattle.std.proofs.lemmas.Grind.{common_steps}
use Rattle.ace_portck.specs.Targets.{Recording}
use Rattle.ace_portck.specs.Stands as ports
use Rattle.ace_sysck.specs.Stands as system
use Rattle.ace_clauses.specs.declared.letters.Letter.TheVariants as letter
use Rattle.ace_explain.proofs.AtRule.{at_rule, sole_35, sole_38, sole_40, no_rule, none_beyond}
use Rattle.ace_explain.proofs.clauses.order_clause.Goals as goal

pub returns-in-34 : goal.returns-in-34
returns-in-34 c = λ high h past tell loads.
    let r : Recording = record { header = h; past = past } in
    let p = subst (λ s. ports.Stands s r) (sym c.ports-ports.ensures) tell.ports in
    let y = subst (λ s. system.Stands s r) (sym c.system-system.ensures) tell.system in
    at_rule r c.args.event.now c.args.rule 34 c.clause_of_k34.result c.in-34.is (c.clause_of_k34.ensures r p y)

pub returns-in-35 : goal.returns-in-35
returns-in-35 c = λ high h past tell loads.
    let r : Recording = record { header = h; past = past } in
    at_rule r c.args.event.now c.args.rule 35 letter.A c.in-35.is (sole_35 r c.args.event.now)

pub returns-in-36 : goal.returns-in-36
returns-in-36 c = λ high h past tell loads.
    let r : Recording = record { header = h; past = past } in
    let y = subst (λ s. system.Stands s r) (sym c.system-system.ensures) tell.system in
    at_rule r c.args.event.now c.args.rule 36 c.clause_of_k36.result c.in-36.is (c.clause_of_k36.ensures r y)

pub returns-in-37 : goal.returns-in-37
returns-in-37 c = λ high h past tell loads.
    let r : Recording = record { header = h; past = past } in
    let p = subst (λ s. ports.Stands s r) (sym c.ports-ports.ensures) tell.ports in
    let y = subst (λ s. system.Stands s r) (sym c.system-system.ensures) tell.system in
    at_rule r c.args.event.now c.args.rule 37 c.clause_of_k37.result c.in-37.is (c.clause_of_k37.ensures r p y)

pub returns-in-38 : goal.returns-in-38
returns-in-38 c = λ high h past tell loads.
    let r : Recording = record { header = h; past = past } in
    at_rule r c.args.event.now c.args.rule 38 letter.A c.in-38.is (sole_38 r c.args.event.now)

pub returns-in-39 : goal.returns-in-39
returns-in-39 c = λ high h past tell loads.
    let r : Recording = record { header = h; past = past } in
    let y = subst (λ s. system.Stands s r) (sym c.system-system.ensures) tell.system in
    at_rule r c.args.event.now c.args.rule 39 c.clause_of_k39.result c.in-39.is (c.clause_of_k39.ensures r y)

pub returns-in-40 : goal.returns-in-40
returns-in-40 c = λ high h past tell loads.
    let r : Recording = record { header = h; past = past } in
    at_rule r c.args.event.now c.args.rule 40 letter.A c.in-40.is (sole_40 r c.args.event.now)

pub returns-in_default : goal.returns-in_default
returns-in_default c = λ high h past tell loads.
    let r : Recording = record { header = h; past = past } in
    let out : 40 < c.args.rule = grind (arith, common_steps) in
    no_rule r c.args.event.now c.args.rule (none_beyond c.args.rule out)
