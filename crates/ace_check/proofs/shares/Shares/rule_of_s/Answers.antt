use Rattle.std.proofs.Common.{refl, sym, ◌∙◌}
use Rattle.ace_check.proofs.Terms.{S, k1, k3, least_of, line_rules, Recording}
use Rattle.ace_check.proofs.WhatComes.{first-2, lines-decide}
use Rattle.ace_check.proofs.shares.Shares.rule_of_s.Goals as goal

pub returns-in-Some : goal.returns-in-Some
returns-in-Some c = λ h past s.
    let a = c.args in
    let e = S a.port a.addr a.st in
    let ports = sym c.in-Some.is ∙ c.rule_of_s.ensures (record { header = h; past = past }) a.st s.ports in
    first-2 1 3 c.in-Some.rule (k1 h past e) (k3 h past e) (least_of line_rules h past e) ports

pub returns : goal.returns
returns c = λ h past s.
    let a = c.args in
    let e = S a.port a.addr a.st in
    let r : Recording = record { header = h; past = past } in
    let ports = sym c.in_default.is ∙ c.rule_of_s.ensures r a.st s.ports in
    lines-decide h past e c.rule_of_s-2.result ports (c.rule_of_s-2.ensures r a.addr s.lines c.place-place.ensures (c.drops_update-drops.ensures r s.ports)) refl
