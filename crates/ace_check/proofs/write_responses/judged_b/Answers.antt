use Rattle.std.proofs.Common.{◌≡◌, true, None, Some, option_map, sym, ap, ◌∙◌}
use Rattle.ace_check.proofs.Terms.{option_copied, Write, B, is_barrier_half, least_of, line_rules, line_write, outstanding, progress_of, system_rules}
use Rattle.ace_model.proofs.General.Options.{none_is}
use Rattle.ace_lineck.proofs.BarrierResponses.{barrier_response-law}
use Rattle.ace_portck.proofs.LineWrites.{line_write-is}
use Rattle.ace_sysck.proofs.ByKind.LineResponses.{response_rules}
use Rattle.ace_sysck.proofs.Steps.{progress_from}
use Rattle.ace_check.proofs.ResponseLaws.{no_line-half, ports-break}
use Rattle.ace_check.proofs.Steps.{found-holds, found-rule}
use Rattle.ace_check.proofs.WhatComes.{lines-decide, no-progress, system-decides}
use Rattle.ace_check.proofs.write_responses.judged_b.Goals as goal

pub returns-in_default-clause-least : goal.returns-in_default-clause-least
returns-in_default-clause-least c = λ r p l s.
    let a = c.args in
    let none = no-progress r.header r.past (outstanding r.header r.past a.port Write a.id) (sym (c.outstanding.ensures r p) ∙ ap option_copied c.in_default.is) in
    sym (ports-break r.header r.past a.port a.id a.resp c.rule_of_no_b.result (c.rule_of_no_b.ensures r a.id p none))

pub returns-in-Some-rule_of_b-clause-least : goal.returns-in-Some-rule_of_b-clause-least
returns-in-Some-rule_of_b-clause-least c = λ r p l s.
    let a = c.args in
    let served = sym (c.outstanding.ensures r p) ∙ ap option_copied c.in-Some.is in
    sym (ports-break r.header r.past a.port a.id a.resp c.in-Some-rule_of_b.rule (sym c.in-Some-rule_of_b.is ∙ c.rule_of_b.ensures r a.id p served))

pub returns-in_default-line_write-clause-least : goal.returns-in_default-line_write-clause-least
returns-in_default-line_write-clause-least c = λ r p l s.
    let a = c.args in
    let e = B a.port a.id a.resp in
    let x = c.in-Some.x.now in
    let served : option_map (progress_of r.header r.past) (outstanding r.header r.past a.port Write a.id) ≡ Some x = sym (c.outstanding.ensures r p) ∙ ap option_copied c.in-Some.is in
    let out = progress_from r.header r.past (outstanding r.header r.past a.port Write a.id) x served in
    let half : is_barrier_half x.transaction ≡ true = no_line-half r.header r.past a.port a.id x.transaction p.accepted out (sym c.line_write.ensures ∙ c.in_default-line_write.is) in
    let kept = sym c.in_default-rule_of_b.is ∙ c.rule_of_b.ensures r a.id p served in
    let lines : None ≡ least_of line_rules r.header r.past e = sym (none_is _ (barrier_response-law r.header r.past a.port a.id a.resp x.transaction out half)) in
    found-rule _ _ _ c.found_unless.ensures
    ∙ system-decides r.header r.past e _ kept lines
    (c.rule_of_half_b-rule.ensures r a.port a.id a.resp s out half (c.first_unordered-unordered.ensures r p) (c.first_incomplete-incomplete.ensures r p))

pub returns-in_default-line_write-clause-found : goal.returns-in_default-line_write-clause-found
returns-in_default-line_write-clause-found c = λ r p.
    found-holds _ _ _ _ c.found_unless.ensures (sym (c.outstanding.ensures r p) ∙ ap option_copied c.in-Some.is, sym c.line_write.ensures ∙ c.in_default-line_write.is)

pub returns-clause-least : goal.returns-clause-least
returns-clause-least c = λ r p l s.
    let a = c.args in
    let e = B a.port a.id a.resp in
    let x = c.in-Some.x.now in
    let k = c.in-Some-line_write.kind in
    let served : option_map (progress_of r.header r.past) (outstanding r.header r.past a.port Write a.id) ≡ Some x = sym (c.outstanding.ensures r p) ∙ ap option_copied c.in-Some.is in
    let out = progress_from r.header r.past (outstanding r.header r.past a.port Write a.id) x served in
    let line : line_write x.transaction ≡ Some k = sym c.line_write.ensures ∙ c.in-Some-line_write.is in
    let kept = sym c.in_default-rule_of_b.is ∙ c.rule_of_b.ensures r a.id p served in
    let system : None ≡ least_of system_rules r.header r.past e = sym (none_is _ (response_rules r.header r.past a.port a.id a.resp x.transaction k out line)) in
    found-rule _ _ _ c.found_unless-2.ensures
    ∙ lines-decide r.header r.past e _ kept (c.rule_of_b-2.ensures r a.port a.id a.resp served (line_write-is x.transaction k line).kind) system

pub returns-clause-found : goal.returns-clause-found
returns-clause-found c = λ r p.
    found-holds _ _ _ _ c.found_unless-2.ensures (sym (c.outstanding.ensures r p) ∙ ap option_copied c.in-Some.is, sym c.line_write.ensures ∙ c.in-Some-line_write.is)
