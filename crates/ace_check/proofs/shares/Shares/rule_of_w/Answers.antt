use Rattle.std.proofs.Common.{None, refl, sym, ◌∙◌, arith}
use Rattle.ace_check.proofs.Terms.{W, k1, k11_burst, k11_data}
use Rattle.ace_check.proofs.WhatComes.{lines-decide, of-one, of-two, ports-first}
use Rattle.ace_check.proofs.Steps.{k1_kept}
use Rattle.ace_check.proofs.shares.Shares.rule_of_w.Goals as goal

pub returns-in-Some : goal.returns-in-Some
returns-in-Some c = λ h past s.
    let a = c.args in
    let e = W a.port a.strb a.last a.word in
    let k = c.in-Some.rule in
    let ports = sym c.in-Some.is ∙ c.rule_of_w.ensures (record { header = h; past = past }) a.word s.ports in
    let at_most = (of-two 1 11 (k1 h past e) (k11_burst h past e) k (omega arith) ports).1 in
    sym (ports-first h past e k ports
    (λ m is. let same = of-one 11 (k11_data h past e) m (sym is) in omega (arith, at_most, same))
    (λ m is. cc))

pub returns : goal.returns
returns c = λ h past s.
    let a = c.args in
    let e = W a.port a.strb a.last a.word in
    let ports = sym c.in_default.is ∙ c.rule_of_w.ensures (record { header = h; past = past }) a.word s.ports in
    lines-decide h past e c.line_rule_of_w.result ports (c.line_rule_of_w.ensures h past a.strb a.last s (k1_kept h past e None ports refl)) refl
