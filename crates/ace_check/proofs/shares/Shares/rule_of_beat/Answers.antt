use Rattle.std.proofs.Common.{None, refl, sym, ◌∙◌, arith}
use Rattle.ace_check.proofs.Terms.{Cd, k1, k17_burst, k17_data, Recording}
use Rattle.ace_check.proofs.WhatComes.{lines-decide, of-one, of-two, ports-first}
use Rattle.ace_check.proofs.Steps.{k1_kept}
use Rattle.ace_check.proofs.shares.Shares.rule_of_beat.Goals as goal

pub returns-in-Some : goal.returns-in-Some
returns-in-Some c = λ h past z s own beat at.
    let a = c.args in
    let e = Cd a.port a.last a.word in
    let k = c.in-Some.rule in
    let ports = sym c.in-Some.is ∙ c.rule_of_cd.ensures (record { header = h; past = past }) a.word s.ports in
    let at_most = (of-two 1 17 (k1 h past e) (k17_burst h past e) k (omega arith) ports).1 in
    sym (ports-first h past e k ports
    (λ m is. let same = of-one 17 (k17_data h past e) m (sym is) in omega (arith, at_most, same))
    (λ m is. cc))

pub returns : goal.returns
returns c = λ h past z s own beat at.
    let a = c.args in
    let e = Cd a.port a.last a.word in
    let r : Recording = record { header = h; past = past } in
    let ports = sym c.in_default.is ∙ c.rule_of_cd.ensures r a.word s.ports in
    lines-decide h past e c.rule_of_cd-2.result ports (c.rule_of_cd-2.ensures r z a.last s.lines (k1_kept h past e None ports refl) own beat at) refl
