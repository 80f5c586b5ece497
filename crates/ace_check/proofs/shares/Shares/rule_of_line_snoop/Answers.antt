use Rattle.std.proofs.Common.{None, refl, sym, ◌∙◌, arith}
use Rattle.ace_check.proofs.Terms.{Ac, k36, k39, k13, Recording}
use Rattle.ace_check.proofs.Snooping.{line-by-kind}
use Rattle.ace_check.proofs.Steps.{k1_kept}
use Rattle.ace_check.proofs.WhatComes.{lines-next, of-one, of-two, system-decides}
use Rattle.ace_check.proofs.shares.Shares.rule_of_line_snoop.Goals as goal

pub returns-in-Some : goal.returns-in-Some
returns-in-Some c = λ h past s kind line ports at.
    let a = c.args in
    let e = Ac a.port a.addr a.snoop in
    let k = c.in-Some.rule in
    let r : Recording = record { header = h; past = past } in
    let lines = sym c.in-Some.is
    ∙ c.rule_of_ac.ensures r a.addr
    (record { stands = s.lines; line = line-by-kind a.snoop a.kind _ kind line; at = at; owes_is = c.owes_wack-owes.ensures r s.ports })
    (c.has_failed_exclusively-failed.ensures h past a.addr s at) in
    let same = of-one 13 (k13 h past e) k lines in
    sym (lines-next h past e k ports lines
    (λ m is. let least = (of-two 36 39 (k36 h past e) (k39 h past e) m (omega arith) (sym is)).0 in omega (arith, same, least)))

pub returns : goal.returns
returns c = λ h past s kind line ports at.
    let a = c.args in
    let e = Ac a.port a.addr a.snoop in
    let r : Recording = record { header = h; past = past } in
    let lines = sym c.in_default.is
    ∙ c.rule_of_ac.ensures r a.addr
    (record { stands = s.lines; line = line-by-kind a.snoop a.kind _ kind line; at = at; owes_is = c.owes_wack-owes.ensures r s.ports })
    (c.has_failed_exclusively-failed.ensures h past a.addr s at) in
    system-decides h past e c.rule_of_ac-2.result ports lines (c.rule_of_ac-2.ensures r a.snoop s.system (k1_kept h past e None ports refl) kind)
