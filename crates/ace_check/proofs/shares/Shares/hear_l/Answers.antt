use Rattle.std.proofs.Common.{refl, sym, ◌∙◌}
use Rattle.ace_check.proofs.Terms.{L}
use Rattle.ace_lineck.proofs.StillLines.{lines-still}
use Rattle.ace_check.proofs.WhatComes.{heard-broken, heard-plain}
use Rattle.ace_check.proofs.shares.Shares.hear_l.Goals as goal

pub returns-in-Some : goal.returns-in-Some
returns-in-Some c = let a = c.args in heard-broken a.self.now (L a.port a.addr a.w a.x a.word) c.in-Some.rule (λ h past s. sym c.in-Some.is ∙ c.rule_of_l.ensures h past a.x s)

pub returns : goal.returns
returns c =
    let a = c.args in
    let e = L a.port a.addr a.w a.x a.word in
    heard-plain a.self.now _ e refl (λ h past s. sym c.in_default.is ∙ c.rule_of_l.ensures h past a.x s) c.hear.ensures.stands c.hear.ensures.room refl
    (λ r s fine few. (lines-still a.self.now.lines r e refl s.lines fine, c.load.ensures.stands r a.w a.word s.system fine few))
    (λ past room. room) (c.load.ensures.roomy 4096)
