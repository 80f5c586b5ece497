use Rattle.std.proofs.Common.{refl, sym}
use Rattle.ace_check.proofs.Terms.{Op}
use Rattle.ace_check.proofs.WhatComes.{ports-decide}
use Rattle.ace_check.proofs.shares.Shares.rule_of_op.Goals as goal

pub returns : goal.returns
returns c = λ h past res s.
    let a = c.args in
    sym (ports-decide h past (Op a.port a.k res) c.rule_of_op.result (c.rule_of_op.ensures (record { header = h; past = past }) res s.ports) refl refl)
