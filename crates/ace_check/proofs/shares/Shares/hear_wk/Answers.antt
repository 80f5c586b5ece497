use Rattle.std.proofs.Common.{refl}
use Rattle.ace_check.proofs.Terms.{Write, Wk}
use Rattle.ace_check.proofs.WhatComes.{heard-broken, heard-plain}
use Rattle.ace_check.proofs.shares.Shares.hear_wk.Goals as goal

pub returns-in-Err : goal.returns-in-Err
returns-in-Err c = heard-broken c.args.self.now _ c.in-Err.rule (λ h past s. c.in-Err.ensures.least (record { header = h; past = past }) s.ports s.lines)

pub returns : goal.returns
returns c =
    heard-plain c.args.self.now _ (Wk c.args.port c.args.st) refl (λ h past s. c.in-Ok.ensures.least (record { header = h; past = past }) s.ports s.lines)
    c.hear.ensures.stands c.hear.ensures.room refl
    (λ r s fine few.
    let f = c.in-Ok.ensures.found r s.ports in
    (c.hear_acknowledge.ensures.stands r Write s.lines f.own f.at fine few, c.acknowledge.ensures.stands r Write s.system f.on fine few))
    (c.hear_acknowledge.ensures.roomy 4096) (c.acknowledge.ensures.roomy 4096)
