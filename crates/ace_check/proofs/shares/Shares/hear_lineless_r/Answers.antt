use Rattle.std.proofs.Common.{◌≡◌, true, false, None, refl, sym, ap, subst, ◌∙◌}
use Rattle.ace_check.proofs.Terms.{R, Header, Trace, SharesTell, least_broken, is_line_read, is_some_and, is_line, Recording, after}
use Rattle.ace_lineck.proofs.LinelessBeats.{lines-unmoved}
use Rattle.ace_sysck.specs.Stands.{Stands}
use Rattle.ace_check.proofs.ReadLaws.{line-by-kind, transfer-of, transfer-only}
use Rattle.ace_check.proofs.WhatComes.{heard-broken, heard-plain}
use Rattle.ace_check.proofs.shares.Shares.hear_lineless_r.Goals as goal

pub returns-in-Err : goal.returns-in-Err
returns-in-Err c none = let a = c.args in heard-broken a.self.now _ c.in-Err.rule (λ h past s. sym (c.in-Err.ensures.broken (record { header = h; past = past }) a.word s.ports))

pub returns-in-Some : goal.returns-in-Some
returns-in-Some c none =
    let a = c.args in
    let x = c.in-Ok.found.0.now in
    let k = c.in-Ok.found.1 in
    heard-broken a.self.now (R a.port a.id a.resp a.last a.word) c.in-Some.rule
    (λ h past s.
    let r : Recording = record { header = h; past = past } in
    let t = c.in-Ok.ensures.found r a.word s.ports in
    let out = transfer-of h past a.port a.id a.resp a.last a.word x k t in
    let lineless : is_line_read k ≡ false = sym (ap (λ o. is_some_and o is_line) out ∙ line-by-kind x.transaction k t.kind) ∙ none h past s in
    sym c.in-Some.is ∙ c.rule_of_lineless_r-rule.ensures r a.port a.id a.last s.ports s.lines s.system t lineless)

pub returns : goal.returns
returns c none =
    let a = c.args in
    let s0 = a.self.now in
    let x = c.in-Ok.found.0.now in
    let k = c.in-Ok.found.1 in
    let found = λ (h : Header) (past : Trace) (s : SharesTell s0 h past). c.in-Ok.ensures.found (record { header = h; past = past }) a.word s.ports in
    let lineless : (h : Header) (past : Trace) → SharesTell s0 h past → is_line_read k ≡ false = λ h past s.
    let t = found h past s in
    sym (ap (λ o. is_some_and o is_line) (transfer-of h past a.port a.id a.resp a.last a.word x k t) ∙ line-by-kind x.transaction k t.kind) ∙ none h past s in
    heard-plain s0 _ (R a.port a.id a.resp a.last a.word) refl
    (λ h past s. sym c.in_default.is ∙ c.rule_of_lineless_r-rule.ensures (record { header = h; past = past }) a.port a.id a.last s.ports s.lines s.system (found h past s) (lineless h past s))
    c.hear.ensures.stands c.hear.ensures.room refl
    (λ r s fine few.
    let t = found r.header r.past s in
    let off = lineless r.header r.past s in
    let out = transfer-of r.header r.past a.port a.id a.resp a.last a.word x k t in
    let last = (transfer-only r.header r.past a.port a.id a.resp a.last a.word x k t off).1 in
    let ended : least_broken r.header r.past (R a.port a.id a.resp true a.word) ≡ None = subst (λ v. least_broken r.header r.past (R a.port a.id a.resp v a.word) ≡ None) last fine in (
      lines-unmoved s0.lines r a.port a.id a.resp a.last a.word x k s.lines t.served t.kind off fine,
      subst (λ v. Stands c.complete_transaction.new.self (after r (R a.port a.id a.resp v a.word))) (sym last) (c.complete_transaction.ensures.beat r a.port a.id a.resp a.word s.system out ended few),
    ))
    (λ past room. room) (c.complete_transaction.ensures.roomy 4096)
