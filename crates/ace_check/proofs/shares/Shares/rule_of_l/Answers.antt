use Rattle.std.proofs.Common.{None, refl, sym, ◌∙◌}
use Rattle.ace_check.proofs.Terms.{L, k1, k3, least_of, line_rules, Recording}
use Rattle.ace_check.proofs.WhatComes.{first-2, lines-decide}
use Rattle.ace_check.proofs.Steps.{k1_kept}
use Rattle.ace_check.proofs.shares.Shares.rule_of_l.Goals as goal

pub returns-in-Some : goal.returns-in-Some
returns-in-Some c = λ h past x s.
    let a = c.args in
    let e = L a.port a.addr a.w x a.word in
    let ports = sym c.in-Some.is ∙ c.rule_of_l.ensures (record { header = h; past = past }) a.w x a.word s.ports in
    first-2 1 3 c.in-Some.rule (k1 h past e) (k3 h past e) (least_of line_rules h past e) ports

pub returns : goal.returns
returns c = λ h past x s.
    let a = c.args in
    let e = L a.port a.addr a.w x a.word in
    let r : Recording = record { header = h; past = past } in
    let ports = sym c.in_default.is ∙ c.rule_of_l.ensures r a.w x a.word s.ports in
    lines-decide h past e c.rule_of_l-2.result ports (c.rule_of_l-2.ensures r x s.lines (k1_kept h past e None ports refl)) refl
