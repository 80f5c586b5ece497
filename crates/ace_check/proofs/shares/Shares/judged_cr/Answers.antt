use Rattle.std.proofs.Common.{◌≡◌, true, Some, is_some, refl, sym, ap, ◌∙◌}
use Rattle.ace_check.proofs.Terms.{option_copied, ac_kind_of, Cr, k1, k2, least_of, line_rules, port_rules, k14, answered, IsAnswered, Recording, line_of_snoop, place_on}
use Rattle.ace_model.proofs.Rules.Keeps.{kept}
use Rattle.ace_check.proofs.AcknowledgeLaws.{not-missing}
use Rattle.ace_check.proofs.Snooping.{answered-kind}
use Rattle.ace_check.proofs.Steps.{found-holds, found-rule}
use Rattle.ace_check.proofs.WhatComes.{first-3, lines-decide}
use Rattle.ace_check.proofs.shares.Shares.judged_cr.Goals as goal

pub returns-in-Some-clause-least : goal.returns-in-Some-clause-least
returns-in-Some-clause-least c = λ h past s.
    let a = c.args in
    let e = Cr a.port a.resp a.st in
    let ports = sym c.in-Some.is ∙ c.rule_of_cr.ensures (record { header = h; past = past }) a.st s.ports in
    first-3 1 2 14 c.in-Some.rule (k1 h past e) (k2 h past e) (k14 h past e) (least_of line_rules h past e) ports

pub returns-in_default-answered-clause-least : goal.returns-in_default-answered-clause-least
returns-in_default-answered-clause-least c = λ h past s.
    let a = c.args in
    let e = Cr a.port a.resp a.st in
    let r : Recording = record { header = h; past = past } in
    let there : is_some (answered past a.port) ≡ true = kept port_rules 14 h past e (sym (c.rule_of_cr.ensures r a.st s.ports) ∙ c.in_default.is) in
    absurd (not-missing (answered past a.port) there (sym (c.answered.ensures r s.ports) ∙ ap option_copied c.in_default-answered.is))

pub returns-in_default-read_ac-clause-least : goal.returns-in_default-read_ac-clause-least
returns-in_default-read_ac-clause-least c = λ h past s.
    let x = c.in-Some-answered.snoop.now in
    let next = sym (c.answered.ensures (record { header = h; past = past }) s.ports) ∙ ap option_copied c.in-Some-answered.is in
    absurd (not-missing (ac_kind_of x.snoop) (answered-kind h past c.args.port x s.ports.accepted next) (sym c.read_ac.ensures ∙ c.in_default-read_ac.is))

pub returns-clause-least : goal.returns-clause-least
returns-clause-least c = λ h past s.
    let a = c.args in
    let x = c.in-Some-answered.snoop.now in
    let r : Recording = record { header = h; past = past } in
    let is : IsAnswered past a.port x c.in-Some-read_ac.kind = record { next = sym (c.answered.ensures r s.ports) ∙ ap option_copied c.in-Some-answered.is; kind = sym c.read_ac.ensures ∙ c.in-Some-read_ac.is } in
    let on = c.snooped_line-line.ensures is.kind in
    let at = c.place-place.ensures ∙ ap (place_on a.self.now.lines) on in
    let lines = c.rule_of_cr-rule.ensures r x s.lines is at
    (λ line. let named : line_of_snoop (Some x) ≡ Some x.addr = rw line refl in c.has_update-update.ensures h past x.addr s (on ∙ named)) in
    found-rule _ _ _ c.found_unless.ensures
    ∙ lines-decide h past (Cr a.port a.resp a.st) _ (sym c.in_default.is ∙ c.rule_of_cr.ensures r a.st s.ports) lines refl

pub returns-clause-found : goal.returns-clause-found
returns-clause-found c = λ h past s.
    let r : Recording = record { header = h; past = past } in
    let kind = sym c.read_ac.ensures ∙ c.in-Some-read_ac.is in
    let on = c.snooped_line-line.ensures kind in
    let next = sym (c.answered.ensures r s.ports) ∙ ap option_copied c.in-Some-answered.is in
    found-holds _ _ _ _ c.found_unless.ensures
    (c.in-Some-answered.snoop.now, record { next = next; kind = kind }, on, c.place-place.ensures ∙ ap (place_on c.args.self.now.lines) on)
