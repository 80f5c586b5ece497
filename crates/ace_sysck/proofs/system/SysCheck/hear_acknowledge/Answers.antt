use Rattle.std.proofs.Common.{◌∙◌, ap}
use Rattle.ace_sysck.proofs.Terms.{acknowledge, line_of}
use Rattle.ace_sysck.proofs.WhatIsHeard.{line_acknowledged, next}
use Rattle.ace_sysck.proofs.system.SysCheck.hear_acknowledge.Goals as goal

pub returns : goal.returns
returns c = λ lines r m.
    let a = c.args in
    let line = c.line_of-line.ensures ∙ ap line_of (c.acknowledged.ensures r m.ports) ∙ line_acknowledged r.header r.past a.chan a.port a.st in
    next a.self.now c.acknowledge.new.self a.ports.now lines r (acknowledge a.chan a.port a.st) m
    (c.acknowledge.ensures.stands r a.chan m.stands line m.kept m.few) c.acknowledge.ensures.roomy
