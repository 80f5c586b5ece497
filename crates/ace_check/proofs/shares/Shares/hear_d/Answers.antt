use Rattle.std.proofs.Common.{is_some, refl, sym, ap, ◌∙◌}
use Rattle.ace_check.proofs.Terms.{D}
use Rattle.ace_check.proofs.Steps.{some-mapped}
use Rattle.ace_check.proofs.WhatComes.{heard-broken, heard-plain}
use Rattle.ace_check.proofs.shares.Shares.hear_d.Goals as goal

pub returns-in-Some : goal.returns-in-Some
returns-in-Some c = let a = c.args in heard-broken a.self.now (D a.port a.addr a.strobe a.x a.line.now) c.in-Some.rule (λ h past s. sym c.in-Some.is ∙ c.rule_of_d.ensures.least h past a.line.now s)

pub returns : goal.returns
returns c =
    let a = c.args in
    let e = D a.port a.addr a.strobe a.x a.line.now in
    heard-plain a.self.now _ e refl (λ h past s. sym c.in_default.is ∙ c.rule_of_d.ensures.least h past a.line.now s) c.hear.ensures.stands c.hear.ensures.room refl
    (λ r s fine few.
    let owned = c.is_some-owned.ensures ∙ some-mapped c.own.result _ ∙ ap is_some (c.own.ensures r s.ports) ∙ c.rule_of_d.ensures.own r.header r.past s c.in_default.is in
    (c.hear_store.ensures.stands r a.addr a.x s.lines c.place-place.ensures owned fine few, c.store.ensures.stands r a.addr a.strobe a.line.now s.system fine few))
    (c.hear_store.ensures.roomy 4096) (c.store.ensures.roomy 4096)
