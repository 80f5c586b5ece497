use Rattle.std.proofs.Common.{◌∙◌, sym}
use Rattle.ace_sysck.proofs.Terms.{Ac}
use Rattle.ace_sysck.proofs.WhatIsHeard.{next, snoop_still}
use Rattle.ace_sysck.proofs.system.SysCheck.hear_snoop.Goals as goal

pub returns-in-Some : goal.returns-in-Some
returns-in-Some c = λ p addr lines r m.
    let a = c.args in
    next a.self.now c.hear_message_snoop.new.self p lines r (Ac a.port addr a.snoop) m
    (c.hear_message_snoop.ensures.stands r addr a.snoop m.stands (sym c.read_ac.ensures ∙ c.in-Some.is) m.kept m.few) c.hear_message_snoop.ensures.roomy

pub returns-in_default : goal.returns-in_default
returns-in_default c = λ p addr lines r m.
    let a = c.args in
    let k = a.self.now in
    next k k p lines r (Ac a.port addr a.snoop) m
    (snoop_still k r a.port addr a.snoop (sym c.read_ac.ensures ∙ c.in_default.is) m.stands m.kept m.few) (λ n past room. room)
