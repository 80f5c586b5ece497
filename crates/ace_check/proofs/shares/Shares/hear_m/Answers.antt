use Rattle.std.proofs.Common.{refl}
use Rattle.ace_check.proofs.Terms.{M}
use Rattle.ace_sysck.proofs.Unmoved.{system_still}
use Rattle.ace_check.proofs.WhatComes.{heard-broken, heard-plain}
use Rattle.ace_check.proofs.shares.Shares.hear_m.Goals as goal

pub returns-in-Err : goal.returns-in-Err
returns-in-Err c = heard-broken c.args.self.now _ c.in-Err.rule (λ h past s. c.in-Err.ensures.least (record { header = h; past = past }) s.ports s.lines)

pub returns : goal.returns
returns c =
    let a = c.args in
    let e = M a.port a.chan a.id a.line.now in
    heard-plain a.self.now _ e refl (λ h past s. c.in-Ok.ensures.least (record { header = h; past = past }) s.ports s.lines) c.hear.ensures.stands c.hear.ensures.room refl
    (λ r s fine few.
    let f = c.in-Ok.ensures.found r s.ports in
    (c.hear_memory_write.ensures.stands r a.port a.chan a.id s.lines f.served f.at fine few, system_still a.self.now.system r e refl s.system fine few))
    (c.hear_memory_write.ensures.roomy 4096) (λ past room. room)
