use Rattle.std.proofs.Common.{refl, sym, ◌∙◌}
use Rattle.ace_check.proofs.Terms.{Op}
use Rattle.ace_lineck.proofs.StillLines.{lines-still}
use Rattle.ace_sysck.proofs.Unmoved.{system_still}
use Rattle.ace_check.proofs.WhatComes.{heard-broken, heard-plain}
use Rattle.ace_check.proofs.shares.Shares.hear_op.Goals as goal

pub returns-in-Some : goal.returns-in-Some
returns-in-Some c = let a = c.args in heard-broken a.self.now (Op a.port a.k a.res) c.in-Some.rule (λ h past s. sym c.in-Some.is ∙ c.rule_of_op.ensures h past a.res s)

pub returns : goal.returns
returns c =
    let a = c.args in
    let e = Op a.port a.k a.res in
    heard-plain a.self.now _ e refl (λ h past s. sym c.in_default.is ∙ c.rule_of_op.ensures h past a.res s) c.hear.ensures.stands c.hear.ensures.room refl
    (λ r s fine few. (lines-still a.self.now.lines r e refl s.lines fine, system_still a.self.now.system r e refl s.system fine few))
    (λ past room. room) (λ past room. room)
