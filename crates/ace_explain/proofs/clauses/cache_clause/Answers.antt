use Rattle.std.proofs.Common.{sym, subst}
use Rattle.ace_portck.specs.Targets.{Recording}
use Rattle.ace_portck.specs.Stands as ports
use Rattle.ace_lineck.specs.Stands as lines
use Rattle.ace_clauses.specs.declared.letters.Letter.TheVariants as letter
use Rattle.ace_explain.proofs.AtRule.{at_rule, sole_30, sole_31}
use Rattle.ace_explain.proofs.clauses.cache_clause.Goals as goal

pub returns-in-29 : goal.returns-in-29
returns-in-29 c = λ high low h past tell loads.
    let r : Recording = record { header = h; past = past } in
    let l = subst (λ s. lines.Stands s r) (sym c.lines.ensures) tell.lines in
    at_rule r c.args.event.now c.args.rule 29 c.clause_of_k29.result c.in-29.is (c.clause_of_k29.ensures r l)

pub returns-in-30 : goal.returns-in-30
returns-in-30 c = λ high low h past tell loads.
    let r : Recording = record { header = h; past = past } in
    at_rule r c.args.event.now c.args.rule 30 letter.A c.in-30.is (sole_30 r c.args.event.now)

pub returns-in-31 : goal.returns-in-31
returns-in-31 c = λ high low h past tell loads.
    let r : Recording = record { header = h; past = past } in
    at_rule r c.args.event.now c.args.rule 31 letter.A c.in-31.is (sole_31 r c.args.event.now)

pub returns-in-32 : goal.returns-in-32
returns-in-32 c = λ high low h past tell loads.
    let r : Recording = record { header = h; past = past } in
    let p = subst (λ s. ports.Stands s r) (sym c.ports.ensures) tell.ports in
    let l = subst (λ s. lines.Stands s r) (sym c.lines-in-32.ensures) tell.lines in
    at_rule r c.args.event.now c.args.rule 32 c.clause_of_k32.result c.in-32.is (c.clause_of_k32.ensures r p l)

pub returns-in-33 : goal.returns-in-33
returns-in-33 c = λ high low h past tell loads.
    let r : Recording = record { header = h; past = past } in
    at_rule r c.args.event.now c.args.rule 33 c.clause_of_k33.result c.in-33.is (c.clause_of_k33.ensures r tell.ports.is_header loads)
