use Rattle.std.proofs.Common.{◌≡◌, true, false, None, Some, refl, sym, ap, ◌∙◌}
use Rattle.ace_check.proofs.Terms.{Cd, k1, least_of, port_rules, Recording}
use Rattle.ace_check.proofs.AcknowledgeLaws.{missing}
use Rattle.ace_check.proofs.SnoopDataLaws.{unsent}
use Rattle.ace_check.proofs.Steps.{found-holds, found-rule}
use Rattle.ace_check.proofs.shares.Shares.judged_cd.Goals as goal

pub returns-in_default-clause-least : goal.returns-in_default-clause-least
returns-in_default-clause-least c = λ h past s.
    let a = c.args in
    let r : Recording = record { header = h; past = past } in
    let none = unsent past a.port (sym (c.sending.ensures r s.ports) ∙ c.in_default.is) in
    let rule : c.rule_of_cd.result ≡ least_of port_rules h past (Cd a.port true a.word) = c.rule_of_cd.ensures r a.word s.ports in
    let alone = rw none at rule in
    rw none (ap Some c.unwrap_or.ensures ∙ missing 17 (k1 h past (Cd a.port a.last a.word)) false None _ alone (λ first. refl))

pub returns-clause-least : goal.returns-clause-least
returns-clause-least c = λ h past s.
    let r : Recording = record { header = h; past = past } in
    let own = sym (c.sending.ensures r s.ports) ∙ c.in-Some.is in
    found-rule _ _ _ c.found_unless.ensures ∙ c.rule_of_beat-rule.ensures h past c.in-Some.snoop s own (c.next_sent_beat-beat.ensures r s.ports) c.place-place.ensures

pub returns-clause-found : goal.returns-clause-found
returns-clause-found c = λ h past s.
    let r : Recording = record { header = h; past = past } in
    found-holds _ _ _ _ c.found_unless.ensures (sym (c.sending.ensures r s.ports) ∙ c.in-Some.is, c.next_sent_beat-beat.ensures r s.ports, c.place-place.ensures)
