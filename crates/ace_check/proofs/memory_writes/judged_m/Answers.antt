use Rattle.std.proofs.Common.{◌≡◌, Some, option_map, sym, ap, ◌∙◌}
use Rattle.ace_check.proofs.Terms.{option_copied, M, k1, least_of, line_rules, outstanding, progress_of}
use Rattle.ace_sysck.proofs.Steps.{progress_from}
use Rattle.ace_check.proofs.MemoryLaws.{line-decides}
use Rattle.ace_check.proofs.Steps.{found-holds, found-rule}
use Rattle.ace_check.proofs.WhatComes.{missing-next, no-progress}
use Rattle.ace_check.proofs.memory_writes.judged_m.Goals as goal

pub returns-in_default-clause-least : goal.returns-in_default-clause-least
returns-in_default-clause-least c = λ r p l.
    let a = c.args in
    let e = M a.port a.chan a.id a.line.now in
    let none = no-progress r.header r.past (outstanding r.header r.past a.port a.chan a.id) (sym (c.outstanding.ensures r p) ∙ ap option_copied c.in_default.is) in
    ap Some c.unwrap_or.ensures
    ∙ missing-next _ (k1 r.header r.past e) (least_of line_rules r.header r.past e) _ (c.rule_of_m.ensures r a.chan a.id a.line.now p)
    (c.rule_of_no_m-absent.ensures r a.port a.chan a.id a.line.now none)

pub returns-clause-least : goal.returns-clause-least
returns-clause-least c = λ r p l.
    let a = c.args in
    let x = c.in-Some.x.now in
    let served : option_map (progress_of r.header r.past) (outstanding r.header r.past a.port a.chan a.id) ≡ Some x = sym (c.outstanding.ensures r p) ∙ ap option_copied c.in-Some.is in
    let out = progress_from r.header r.past (outstanding r.header r.past a.port a.chan a.id) x served in
    found-rule _ _ _ c.found_unless.ensures
    ∙ line-decides r.header r.past a.port a.chan a.id a.line.now x.transaction p.accepted out _
    (c.rule_of_m-2.ensures r a.port a.chan a.id l served (c.burst-burst.ensures r a.line.now p) c.place-place.ensures)

pub returns-clause-found : goal.returns-clause-found
returns-clause-found c = λ r p. found-holds _ _ _ _ c.found_unless.ensures (record { served = sym (c.outstanding.ensures r p) ∙ ap option_copied c.in-Some.is; at = c.place-place.ensures })
