use Rattle.std.proofs.Common.{if◌then◌else◌, None, Some, sym, ap, ◌∙◌, arith}
use Rattle.ace_check.proofs.Terms.{option_copied, G, k1, k12, k35, outstanding}
use Rattle.ace_sysck.proofs.Steps.{progress_from}
use Rattle.ace_check.proofs.OutstandingLaws.{ports-keep}
use Rattle.ace_check.proofs.Steps.{found-holds, found-rule}
use Rattle.ace_check.proofs.WhatComes.{first-1, lines-next, missing-next, no-progress, of-one, system-decides}
use Rattle.ace_check.proofs.grants.judged_g.Goals as goal

pub returns-in_default-clause-least : goal.returns-in_default-clause-least
returns-in_default-clause-least c = λ r p l s.
    let a = c.args in
    let e = G a.port a.chan a.id in
    let none = no-progress r.header r.past (outstanding r.header r.past a.port a.chan a.id) (sym (c.outstanding.ensures r p) ∙ ap option_copied c.in_default.is) in
    let next = first-1 12 _ (k12 r.header r.past e) (if k35 r.header r.past e then None else Some 35) (c.rule_of_no_g-absent.ensures r a.port a.chan a.id none) in
    ap Some c.unwrap_or.ensures ∙ missing-next _ (k1 r.header r.past e) _ _ (c.rule_of_g.ensures r a.chan a.id p) next

pub returns-in-Some-rule_of_g-clause-least : goal.returns-in-Some-rule_of_g-clause-least
returns-in-Some-rule_of_g-clause-least c = λ r p l s.
    let a = c.args in
    let e = G a.port a.chan a.id in
    let x = c.in-Some.x.now in
    let k = c.in-Some-rule_of_g.rule in
    let out = progress_from r.header r.past (outstanding r.header r.past a.port a.chan a.id) x (sym (c.outstanding.ensures r p) ∙ ap option_copied c.in-Some.is) in
    let lines = sym c.in-Some-rule_of_g.is ∙ c.rule_of_g-2.ensures r a.port a.chan a.id l out c.place-place.ensures in
    let twelve = of-one 12 (k12 r.header r.past e) k lines in
    sym (lines-next r.header r.past e k (ports-keep r.header r.past a.port a.chan a.id x.transaction p.accepted out) lines
    (λ m is. let same = of-one 35 (k35 r.header r.past e) m (sym is) in omega (arith, twelve, same)))

pub returns-clause-least : goal.returns-clause-least
returns-clause-least c = λ r p l s.
    let a = c.args in
    let x = c.in-Some.x.now in
    let out = progress_from r.header r.past (outstanding r.header r.past a.port a.chan a.id) x (sym (c.outstanding.ensures r p) ∙ ap option_copied c.in-Some.is) in
    let lines = sym c.in_default-rule_of_g.is ∙ c.rule_of_g-2.ensures r a.port a.chan a.id l out c.place-place.ensures in
    found-rule _ _ _ c.found_unless.ensures
    ∙ system-decides r.header r.past (G a.port a.chan a.id) _ (ports-keep r.header r.past a.port a.chan a.id x.transaction p.accepted out) lines (c.rule_of_g-3.ensures r a.port a.chan a.id s out)

pub returns-clause-found : goal.returns-clause-found
returns-clause-found c = λ r p. found-holds _ _ _ _ c.found_unless.ensures (record { served = sym (c.outstanding.ensures r p) ∙ ap option_copied c.in-Some.is; at = c.place-place.ensures })
