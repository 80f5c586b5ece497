use Rattle.std.proofs.Common.{refl}
use Rattle.ace_check.proofs.Terms.{Cd}
use Rattle.ace_sysck.proofs.Unmoved.{system_still}
use Rattle.ace_check.proofs.WhatComes.{heard-broken, heard-plain}
use Rattle.ace_check.proofs.shares.Shares.hear_cd.Goals as goal

pub returns-in-Err : goal.returns-in-Err
returns-in-Err c = heard-broken c.args.self.now _ c.in-Err.rule c.in-Err.ensures.least

pub returns : goal.returns
returns c =
    let a = c.args in
    let e = Cd a.port a.last a.word in
    heard-plain a.self.now _ e refl c.in-Ok.ensures.least c.hear.ensures.stands c.hear.ensures.room refl
    (λ r s fine few.
    let f = c.in-Ok.ensures.found r.header r.past s in
    (c.hear_sent.ensures.stands r c.in-Ok.found.0 a.last a.word s.lines f.0 f.1 f.2 fine few, system_still a.self.now.system r e refl s.system fine few))
    (c.hear_sent.ensures.roomy 4096) (λ past room. room)
