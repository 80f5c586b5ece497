use Rattle.ace_check.proofs.Terms.{Aw}
use Rattle.ace_check.proofs.Addresses.{half-issued, half-off, heard-lineless}
use Rattle.ace_check.proofs.WhatComes.{heard-broken}
use Rattle.ace_check.proofs.shares.Shares.hear_lineless_aw.Goals as goal

pub returns-in-Err : goal.returns-in-Err
returns-in-Err c = λ none. heard-broken c.args.self.now _ c.in-Err.rule (λ h past s. c.in-Err.ensures.least h past s none)

pub returns : goal.returns
returns c = λ none.
    let a = c.args in
    let e = Aw a.port a.id a.addr a.snoop a.dom a.bar in
    let x = c.in-Ok.found in
    heard-lineless a.self.now c.hear.new.self c.begin_barrier.new.self e (λ h past s. c.in-Ok.ensures.least h past s none) c.hear.ensures.stands c.hear.ensures.room (λ q addr snoop is. cc)
    (λ r s fine few.
    let f = c.in-Ok.ensures.found r.header r.past s none in
    (x, f.0, half-off r.past e x f.0 f.1, c.begin_barrier.ensures.stands r e s.system (half-issued r.header r.past e x f.0 f.1 s.ports.accepted fine) fine few))
    (c.begin_barrier.ensures.roomy 4096)
