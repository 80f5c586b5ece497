use Rattle.std.proofs.Common.{◌≡◌, if◌then◌else◌, None, Some, refl, sym, ap, ◌∙◌}
use Rattle.ace_check.proofs.Terms.{option_copied, Write, Wk, least_of, k1, k27, k28, port_rules, write_kind, transaction_in}
use Rattle.ace_model.proofs.General.Options.{none_is}
use Rattle.ace_model.proofs.Trace.IssuedTransactions.{acknowledged-write}
use Rattle.ace_portck.proofs.Acknowledges.{acknowledge-keeps, acknowledge-one}
use Rattle.ace_portck.proofs.Kept.{wk_keeps}
use Rattle.ace_check.proofs.AcknowledgeLaws.{found-of, missing, not-missing}
use Rattle.ace_check.proofs.Steps.{found-holds, found-rule}
use Rattle.ace_check.proofs.WhatComes.{lines-decide}
use Rattle.ace_check.proofs.acknowledges.judged_wk.Goals as goal

pub returns-in_default-clause-least : goal.returns-in_default-clause-least
returns-in_default-clause-least c = λ r p l.
    let a = c.args in
    let e = Wk a.port a.st in
    let none : transaction_in r.header r.past e ≡ None = sym (c.acknowledged.ensures r p) ∙ ap option_copied c.in_default.is in
    ap Some c.unwrap_or.ensures
    ∙ missing 27 (k1 r.header r.past e) (k27 r.header r.past e) (if k28 r.header r.past e then None else Some 28) c.rule_of_wk.result (c.rule_of_wk.ensures r a.st p)
    (λ first. wk_keeps r.header r.past p.accepted a.port a.st e None first refl (sym none))

pub returns-in_default-write_kind-clause-least : goal.returns-in_default-write_kind-clause-least
returns-in_default-write_kind-clause-least c = λ r p l.
    let a = c.args in
    let x = c.in-Some.x.now in
    let own : transaction_in r.header r.past (Wk a.port a.st) ≡ Some x = sym (c.acknowledged.ensures r p) ∙ ap option_copied c.in-Some.is in
    let known = acknowledged-write r.header r.past a.port x.transaction p.accepted (acknowledge-one r.header r.past a.port a.st x Write own) in
    absurd (not-missing (write_kind x.transaction) known (sym c.write_kind.ensures ∙ c.in_default-write_kind.is))

pub returns-clause-least : goal.returns-clause-least
returns-clause-least c = λ r p l.
    let a = c.args in
    let x = c.in-Some.x.now in
    let kind = sym c.write_kind.ensures ∙ c.in-Some-write_kind.is in
    let f = found-of c.args.lines.now r (Wk a.port a.st) x _ _ refl (sym (c.acknowledged.ensures r p) ∙ ap option_copied c.in-Some.is) (c.line_of_write-line.ensures kind) c.place-place.ensures in
    let ports : None ≡ least_of port_rules r.header r.past (Wk a.port a.st) = sym (none_is _ (acknowledge-keeps r.header r.past a.port a.st x Write p.accepted f.own)) in
    found-rule _ _ _ c.found_unless.ensures ∙ lines-decide r.header r.past (Wk a.port a.st) _ ports (c.rule_of_wk-2.ensures r x l f.own kind f.at) refl

pub returns-clause-found : goal.returns-clause-found
returns-clause-found c = λ r p.
    let a = c.args in
    let x = c.in-Some.x.now in
    let kind = sym c.write_kind.ensures ∙ c.in-Some-write_kind.is in
    found-holds _ _ _ _ c.found_unless.ensures (found-of c.args.lines.now r (Wk a.port a.st) x _ _ refl (sym (c.acknowledged.ensures r p) ∙ ap option_copied c.in-Some.is) (c.line_of_write-line.ensures kind) c.place-place.ensures)
