use Rattle.std.proofs.Common.{◌≡◌, if◌then◌else◌, None, Some, refl, sym, ap, ◌∙◌}
use Rattle.ace_check.proofs.Terms.{option_copied, Read, Rk, least_of, k1, k22, k23, port_rules, read_kind, transaction_in}
use Rattle.ace_model.proofs.General.Options.{none_is}
use Rattle.ace_model.proofs.Trace.IssuedTransactions.{acknowledged-read}
use Rattle.ace_portck.proofs.Acknowledges.{acknowledge-keeps, acknowledge-one}
use Rattle.ace_portck.proofs.Kept.{rk_keeps}
use Rattle.ace_check.proofs.AcknowledgeLaws.{found-of, missing, not-missing, read-outstanding}
use Rattle.ace_check.proofs.Steps.{found-holds, found-rule}
use Rattle.ace_check.proofs.WhatComes.{lines-decide}
use Rattle.ace_check.proofs.acknowledges.judged_rk.Goals as goal

pub returns-in_default-clause-least : goal.returns-in_default-clause-least
returns-in_default-clause-least c = λ r p l s.
    let a = c.args in
    let e = Rk a.port a.st in
    let none : transaction_in r.header r.past e ≡ None = sym (c.acknowledged.ensures r p) ∙ ap option_copied c.in_default.is in
    ap Some c.unwrap_or.ensures
    ∙ missing 22 (k1 r.header r.past e) (k22 r.header r.past e) (if k23 r.header r.past e then None else Some 23) c.rule_of_rk.result (c.rule_of_rk.ensures r a.st p)
    (λ first. rk_keeps r.header r.past p.accepted a.port a.st e None first refl (sym none))

pub returns-in_default-read_kind-clause-least : goal.returns-in_default-read_kind-clause-least
returns-in_default-read_kind-clause-least c = λ r p l s.
    let a = c.args in
    let x = c.in-Some.x.now in
    let own : transaction_in r.header r.past (Rk a.port a.st) ≡ Some x = sym (c.acknowledged.ensures r p) ∙ ap option_copied c.in-Some.is in
    let known = acknowledged-read r.header r.past a.port x.transaction p.accepted (acknowledge-one r.header r.past a.port a.st x Read own) in
    absurd (not-missing (read_kind x.transaction) known (sym c.read_kind.ensures ∙ c.in_default-read_kind.is))

pub returns-clause-least : goal.returns-clause-least
returns-clause-least c = λ r p l s.
    let a = c.args in
    let x = c.in-Some.x.now in
    let kind = sym c.read_kind.ensures ∙ c.in-Some-read_kind.is in
    let f = found-of c.args.lines.now r (Rk a.port a.st) x _ _ refl (sym (c.acknowledged.ensures r p) ∙ ap option_copied c.in-Some.is) (c.line_of_read-line.ensures kind) c.place-place.ensures in
    let failed = c.is_failed_store-failed.ensures r _ _ s (read-outstanding r.header r.past a.port a.st l.accepted x f.own) in
    let ports : None ≡ least_of port_rules r.header r.past (Rk a.port a.st) = sym (none_is _ (acknowledge-keeps r.header r.past a.port a.st x Read p.accepted f.own)) in
    found-rule _ _ _ c.found_unless.ensures ∙ lines-decide r.header r.past (Rk a.port a.st) _ ports (c.rule_of_rk-rule.ensures r l f.own kind failed f.at) refl

pub returns-clause-found : goal.returns-clause-found
returns-clause-found c = λ r p.
    let a = c.args in
    let x = c.in-Some.x.now in
    let kind = sym c.read_kind.ensures ∙ c.in-Some-read_kind.is in
    found-holds _ _ _ _ c.found_unless.ensures (found-of c.args.lines.now r (Rk a.port a.st) x _ _ refl (sym (c.acknowledged.ensures r p) ∙ ap option_copied c.in-Some.is) (c.line_of_read-line.ensures kind) c.place-place.ensures)
