use Rattle.std.proofs.Common.{refl, sym}
use Rattle.ace_check.proofs.Terms.{Mem}
use Rattle.ace_check.proofs.WhatComes.{ports-decide}
use Rattle.ace_check.proofs.shares.Shares.rule_of_mem.Goals as goal

pub returns : goal.returns
returns c = λ h past line s.
    sym (ports-decide h past (Mem c.args.addr line) _ (c.rule_of_mem.ensures (record { header = h; past = past }) line s.ports) refl refl)
