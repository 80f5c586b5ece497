use Rattle.std.proofs.Common.{◌≡◌, true, refl, sym, ap, ◌∙◌}
use Rattle.ace_check.proofs.Terms.{R, is_line_read, is_some_and, is_line, Recording}
use Rattle.ace_check.proofs.ReadLaws.{line-by-kind, system-served, transfer-of}
use Rattle.ace_check.proofs.WhatComes.{heard-broken, heard-plain}
use Rattle.ace_check.proofs.shares.Shares.hear_r.Goals as goal

pub returns-in-Err : goal.returns-in-Err
returns-in-Err c = let a = c.args in heard-broken a.self.now _ c.in-Err.rule (λ h past s. sym (c.in-Err.ensures.broken (record { header = h; past = past }) a.word s.ports))

pub returns-then-not-is_line_read : goal.returns-then-not-is_line_read
returns-then-not-is_line_read c =
    let a = c.args in
    let x = c.in-Ok.found.0.now in
    let k = c.in-Ok.found.1 in
    c.hear_lineless_r.ensures (λ h past s.
    let t = c.in-Ok.ensures.found (record { header = h; past = past }) a.word s.ports in
    let out = transfer-of h past a.port a.id a.resp a.last a.word x k t in
    ap (λ o. is_some_and o is_line) out ∙ line-by-kind x.transaction k t.kind ∙ sym c.is_line_read.ensures ∙ c.if-not-is_line_read.true)

pub returns-in-Some : goal.returns-in-Some
returns-in-Some c =
    let a = c.args in
    let line : is_line_read c.in-Ok.found.1 ≡ true = sym c.is_line_read.ensures ∙ c.if-not-is_line_read.false in
    heard-broken a.self.now (R a.port a.id a.resp a.last a.word) c.in-Some.rule
    (λ h past s.
    let r : Recording = record { header = h; past = past } in
    sym c.in-Some.is ∙ c.rule_of_line_r-rule.ensures r a.port a.id a.last s.lines s.system (c.in-Ok.ensures.found r a.word s.ports) line c.place-place.ensures)

pub returns : goal.returns
returns c =
    let a = c.args in
    let x = c.in-Ok.found.0.now in
    let k = c.in-Ok.found.1 in
    let line : is_line_read k ≡ true = sym c.is_line_read.ensures ∙ c.if-not-is_line_read.false in
    heard-plain a.self.now _ (R a.port a.id a.resp a.last a.word) refl
    (λ h past s.
    let r : Recording = record { header = h; past = past } in
    sym c.in_default.is ∙ c.rule_of_line_r-rule.ensures r a.port a.id a.last s.lines s.system (c.in-Ok.ensures.found r a.word s.ports) line c.place-place.ensures)
    c.hear.ensures.stands c.hear.ensures.room refl
    (λ r s fine few.
    let t = c.in-Ok.ensures.found r a.word s.ports in (
      c.hear_beat.ensures.stands r a.port a.id a.resp a.word s.lines t.served t.kind line c.place-place.ensures fine few,
      system-served a.self.now.system r.header r.past a.port a.id a.resp a.last a.word x k t line s.system fine few,
    ))
    (c.hear_beat.ensures.roomy 4096) (λ past room. room)
