use Rattle.std.proofs.Common.{◌≡◌, ◌∙◌, None, sym, ap, subst}
use Rattle.ace_sysck.proofs.Terms.{option_copied, Read, R, least_broken, outstanding, after, Stands}
use Rattle.ace_sysck.proofs.Steps.{progress_from}
use Rattle.ace_sysck.proofs.WhatIsHeard.{next, transfer-found, transfer-still}
use Rattle.ace_sysck.proofs.system.SysCheck.hear_transfer.Goals as goal

pub returns-then-not-last : goal.returns-then-not-last
returns-then-not-last c = λ resp word lines r m.
    let a = c.args in
    let k = a.self.now in
    next k k a.ports.now lines r (R a.port a.id resp a.last word) m
    (transfer-still k r a.port a.id resp a.last word c.if-not-last.true m.stands m.kept m.few) (λ n past room. room)

pub returns-in-Some : goal.returns-in-Some
returns-in-Some c = λ resp word lines r m.
    let a = c.args in
    let k = a.self.now in
    let n = c.complete_transaction.new.self in
    let h = r.header in
    let out = progress_from h r.past (outstanding h r.past a.port Read a.id) c.in-Some.x.now (sym (c.outstanding.ensures r m.ports) ∙ ap option_copied c.in-Some.is) in
    next k n a.ports.now lines r (R a.port a.id resp a.last word) m
    (subst (λ b. least_broken h r.past (R a.port a.id resp b word) ≡ None → Stands n (after r (R a.port a.id resp b word))) (sym c.if-not-last.false)
    (λ fine. c.complete_transaction.ensures.beat r a.port a.id resp word m.stands out fine m.few) m.kept)
    c.complete_transaction.ensures.roomy

pub returns-in_default : goal.returns-in_default
returns-in_default c = λ resp word lines r m.
    let a = c.args in
    let none = sym (c.outstanding.ensures r m.ports) ∙ ap option_copied c.in_default.is in
    absurd (transfer-found r.header r.past a.port a.id resp a.last word (m.stands.accepted, m.kept) none)
