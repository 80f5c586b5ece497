use Rattle.std.proofs.Common.{◌∙◌, sym, ap}
use Rattle.ace_sysck.proofs.Terms.{option_copied, Write, B, outstanding}
use Rattle.ace_sysck.proofs.Steps.{progress_from}
use Rattle.ace_sysck.proofs.WhatIsHeard.{next, response-found}
use Rattle.ace_sysck.proofs.system.SysCheck.hear_response.Goals as goal

pub returns-in-Some : goal.returns-in-Some
returns-in-Some c = λ resp lines r m.
    let a = c.args in
    let h = r.header in
    let out = progress_from h r.past (outstanding h r.past a.port Write a.id) c.in-Some.x.now (sym (c.outstanding.ensures r m.ports) ∙ ap option_copied c.in-Some.is) in
    next a.self.now c.complete_transaction.new.self a.ports.now lines r (B a.port a.id resp) m
    (c.complete_transaction.ensures.response r a.port a.id resp m.stands out m.kept m.few) c.complete_transaction.ensures.roomy

pub returns-in_default : goal.returns-in_default
returns-in_default c = λ resp lines r m.
    let a = c.args in
    let none = sym (c.outstanding.ensures r m.ports) ∙ ap option_copied c.in_default.is in
    absurd (response-found r.header r.past a.port a.id resp (m.stands.accepted, m.kept) none)
