use Rattle.std.proofs.Common.{if◌then◌else◌, None, Some, is_some, refl, sym, ap, ◌∙◌, arith}
use Rattle.ace_check.proofs.Terms.{D, k1, k3, k32, k33, least_of, system_rules, Recording, is_some_and}
use Rattle.ace_check.proofs.WhatComes.{first-2, lines-next, of-one, system-decides}
use Rattle.ace_lineck.specs.Holders.{awaits_store}
use Rattle.ace_check.proofs.Steps.{k1_kept, some-mapped}
use Rattle.ace_check.proofs.shares.Shares.rule_of_d.Goals as goal

pub returns-in-Some-clause-least : goal.returns-in-Some-clause-least
returns-in-Some-clause-least c = λ h past line s.
    let a = c.args in
    let e = D a.port a.addr a.strobe a.x line in
    let ports = sym c.in-Some.is ∙ c.rule_of_d.ensures (record { header = h; past = past }) a.strobe a.x line s.ports in
    first-2 1 3 c.in-Some.rule (k1 h past e) (k3 h past e) (if k32 h past e then least_of system_rules h past e else Some 32) ports

pub returns-in-Some-rule_of_d-clause-least : goal.returns-in-Some-rule_of_d-clause-least
returns-in-Some-rule_of_d-clause-least c = λ h past line s.
    let a = c.args in
    let e = D a.port a.addr a.strobe a.x line in
    let k = c.in-Some-rule_of_d.rule in
    let r : Recording = record { header = h; past = past } in
    let ports = sym c.in_default.is ∙ c.rule_of_d.ensures r a.strobe a.x line s.ports in
    let lines = sym c.in-Some-rule_of_d.is ∙ c.rule_of_d-2.ensures.least r a.addr line s.lines c.place-place.ensures (k1_kept h past e None ports refl) (c.own-own.ensures r s.ports) in
    let most = of-one 32 (k32 h past e) k lines in
    sym (lines-next h past e k ports lines (λ m is. let same = of-one 33 (k33 h past e) m (sym is) in omega (arith, most, same)))

pub returns-clause-least : goal.returns-clause-least
returns-clause-least c = λ h past line s.
    let a = c.args in
    let e = D a.port a.addr a.strobe a.x line in
    let r : Recording = record { header = h; past = past } in
    let ports = sym c.in_default.is ∙ c.rule_of_d.ensures r a.strobe a.x line s.ports in
    let lines = sym c.in_default-rule_of_d.is ∙ c.rule_of_d-2.ensures.least r a.addr line s.lines c.place-place.ensures (k1_kept h past e None ports refl) (c.own-own.ensures r s.ports) in
    system-decides h past e c.rule_of_d-3.result ports lines (c.rule_of_d-3.ensures r a.strobe line s.system)

pub returns-clause-own : goal.returns-clause-own
returns-clause-own c = λ h past s none.
    let own = c.own-own.ensures (record { header = h; past = past }) s.ports in
    sym (ap is_some own) ∙ sym (some-mapped c.own-own.result _) ∙ c.rule_of_d-2.ensures.own c.in_default-rule_of_d.is ∙ ap (λ o. is_some_and o awaits_store) own
