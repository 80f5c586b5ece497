use Rattle.std.proofs.Common.{◌<◌, arith}
use Rattle.ace_sysck.proofs.WhatIsHeard.{line_read-heard, line_write-heard, next}
use Rattle.ace_sysck.proofs.system.SysCheck.begin_line_transaction.Goals as goal

pub returns-in-Read : goal.returns-in-Read
returns-in-Read c = λ p lines r e b m.
    next c.args.self.now c.begin_line_read.new.self p lines r e m
    (line_read-heard r c.begin_line_read.new.self e c.args.x.now b c.in-Read.is (m.stands.accepted, m.kept)
    (λ addr snoop dom bar lock k kind line fine. c.begin_line_read.ensures.stands r addr snoop dom bar lock k m.stands kind line fine m.few))
    c.begin_line_read.ensures.roomy

pub returns-in-Write : goal.returns-in-Write
returns-in-Write c = λ p lines r e b m.
    let k = c.args.self.now in
    let x = c.args.x.now in
    let low : x.id < 256 = omega arith in
    next k k p lines r e m (line_write-heard k r e x b c.in-Write.is low m.stands m.kept m.few) (λ n past room. room)
