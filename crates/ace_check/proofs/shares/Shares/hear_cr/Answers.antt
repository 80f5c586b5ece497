use Rattle.std.proofs.Common.{refl}
use Rattle.ace_check.proofs.Terms.{Cr}
use Rattle.ace_check.proofs.WhatComes.{heard-broken, heard-plain}
use Rattle.ace_check.proofs.shares.Shares.hear_cr.Goals as goal

pub returns-in-Err : goal.returns-in-Err
returns-in-Err c = heard-broken c.args.self.now _ c.in-Err.rule c.in-Err.ensures.least

pub returns : goal.returns
returns c =
    let a = c.args in
    heard-plain a.self.now _ (Cr a.port a.resp a.st) refl c.in-Ok.ensures.least c.hear.ensures.stands c.hear.ensures.room refl
    (λ r s fine few.
    let f = c.in-Ok.ensures.found r.header r.past s in
    (c.hear_snoop_answer.ensures.stands r f.0 c.in-Ok.found.0 s.lines f.1 f.3 fine few, c.hear_snoop_answer-2.ensures.stands r f.0 a.resp s.system f.1 f.2 fine few))
    (c.hear_snoop_answer.ensures.roomy 4096) (c.hear_snoop_answer-2.ensures.roomy 4096)
