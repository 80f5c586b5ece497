use Rattle.std.proofs.Common.{None, refl, sym, ◌∙◌}
use Rattle.ace_check.proofs.Terms.{Ac, Recording}
use Rattle.ace_lineck.proofs.MessageSnoops.{message_snoop-keeps}
use Rattle.ace_check.proofs.Snooping.{ac-has-kind, ac-port-first, line-by-kind}
use Rattle.ace_check.proofs.Steps.{found-holds, found-rule, k1_kept}
use Rattle.ace_check.proofs.WhatComes.{system-decides}
use Rattle.ace_check.proofs.shares.Shares.judged_ac.Goals as goal

pub returns-in-Some-clause-least : goal.returns-in-Some-clause-least
returns-in-Some-clause-least c = λ h past s.
    let a = c.args in
    ac-port-first h past a.port a.addr a.snoop c.in-Some.rule (sym c.in-Some.is ∙ c.rule_of_ac.ensures (record { header = h; past = past }) a.snoop s.ports c.read_ac-kind.ensures)

pub returns-in_default-kind-clause-least : goal.returns-in_default-kind-clause-least
returns-in_default-kind-clause-least c = λ h past s.
    let a = c.args in
    let ports = sym c.in_default.is ∙ c.rule_of_ac.ensures (record { header = h; past = past }) a.snoop s.ports c.read_ac-kind.ensures in
    absurd (ac-has-kind h past a.port a.addr a.snoop ports (sym c.read_ac-kind.ensures ∙ c.in_default-kind.is))

pub returns-then-not-is_line_snoop-clause-least : goal.returns-then-not-is_line_snoop-clause-least
returns-then-not-is_line_snoop-clause-least c = λ h past s.
    let a = c.args in
    let e = Ac a.port a.addr a.snoop in
    let r : Recording = record { header = h; past = past } in
    let kind = sym c.read_ac-kind.ensures ∙ c.in-Some-kind.is in
    let ports = sym c.in_default.is ∙ c.rule_of_ac.ensures r a.snoop s.ports c.read_ac-kind.ensures in
    let off = line-by-kind a.snoop c.in-Some-kind.kind _ kind (sym c.is_line_snoop.ensures ∙ c.if-not-is_line_snoop.true) in
    found-rule _ _ _ c.found_unless.ensures
    ∙ system-decides h past e _ ports (sym (message_snoop-keeps h past a.port a.addr a.snoop off)) (c.rule_of_ac-then-not-is_line_snoop.ensures r a.snoop s.system (k1_kept h past e None ports refl) kind)

pub returns-then-not-is_line_snoop-clause-found : goal.returns-then-not-is_line_snoop-clause-found
returns-then-not-is_line_snoop-clause-found c =
    found-holds _ _ _ _ c.found_unless.ensures
    (sym c.read_ac-kind.ensures ∙ c.in-Some-kind.is, λ line. let off = sym c.is_line_snoop.ensures ∙ c.if-not-is_line_snoop.true in cc)

pub returns-clause-least : goal.returns-clause-least
returns-clause-least c = λ h past s.
    let ports = sym c.in_default.is ∙ c.rule_of_ac.ensures (record { header = h; past = past }) c.args.snoop s.ports c.read_ac-kind.ensures in
    found-rule _ _ _ c.found_unless-2.ensures
    ∙ c.rule_of_line_snoop-rule.ensures h past s (sym c.read_ac-kind.ensures ∙ c.in-Some-kind.is) (sym c.is_line_snoop.ensures ∙ c.if-not-is_line_snoop.false) ports c.place-place.ensures

pub returns-clause-found : goal.returns-clause-found
returns-clause-found c = found-holds _ _ _ _ c.found_unless-2.ensures (sym c.read_ac-kind.ensures ∙ c.in-Some-kind.is, λ line. c.place-place.ensures)
