use Rattle.std.proofs.Common.{refl, sym, ◌∙◌}
use Rattle.ace_check.proofs.Terms.{S}
use Rattle.ace_check.proofs.WhatComes.{heard-broken, heard-plain}
use Rattle.ace_check.proofs.shares.Shares.hear_s.Goals as goal

pub returns-in-Some : goal.returns-in-Some
returns-in-Some c = let a = c.args in heard-broken a.self.now (S a.port a.addr a.st) c.in-Some.rule (λ h past s. sym c.in-Some.is ∙ c.rule_of_s.ensures h past s)

pub returns : goal.returns
returns c =
    let a = c.args in
    let e = S a.port a.addr a.st in
    heard-plain a.self.now _ e refl (λ h past s. sym c.in_default.is ∙ c.rule_of_s.ensures h past s) c.hear.ensures.stands c.hear.ensures.room refl
    (λ r s fine few. (c.hear_change.ensures.stands r a.addr s.lines c.place-place.ensures fine few, c.change.ensures.stands r s.system fine few))
    (c.hear_change.ensures.roomy 4096) (c.change.ensures.roomy 4096)
