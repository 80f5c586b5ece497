use Rattle.std.proofs.Common.{◌≡◌, ◌∙◌, Some, sym, ap}
use Rattle.ace_sysck.proofs.Terms.{option_copied, Cr, answered, IsAnswered}
use Rattle.ace_sysck.proofs.WhatIsHeard.{answer-found, answered-kind, next}
use Rattle.ace_sysck.proofs.system.SysCheck.hear_answer.Goals as goal

pub returns-in_default : goal.returns-in_default
returns-in_default c = λ resp lines r m.
    let a = c.args in
    absurd (answer-found r.header r.past a.port resp a.st (m.stands.accepted, m.kept) (sym (c.answered.ensures r m.ports) ∙ ap option_copied c.in_default.is))

pub returns-in-Some-read_ac : goal.returns-in-Some-read_ac
returns-in-Some-read_ac c = λ resp lines r m.
    let a = c.args in
    let x = c.in-Some.snoop.now in
    let next_one : answered r.past a.port ≡ Some x = sym (c.answered.ensures r m.ports) ∙ ap option_copied c.in-Some.is in
    let is : IsAnswered r.past a.port x c.in-Some-read_ac.kind = record { next = next_one; kind = sym c.read_ac.ensures ∙ c.in-Some-read_ac.is } in
    next a.self.now c.hear_snoop_answer.new.self a.ports.now lines r (Cr a.port resp a.st) m
    (c.hear_snoop_answer.ensures.stands r x resp m.stands is (c.snooped_line-line.ensures is.kind) m.kept m.few) c.hear_snoop_answer.ensures.roomy

pub returns-in_default-read_ac : goal.returns-in_default-read_ac
returns-in_default-read_ac c = λ resp lines r m.
    let a = c.args in
    let x = c.in-Some.snoop.now in
    let next_one : answered r.past a.port ≡ Some x = sym (c.answered.ensures r m.ports) ∙ ap option_copied c.in-Some.is in
    absurd (answered-kind r.header r.past a.port x m.stands.accepted next_one (sym c.read_ac.ensures ∙ c.in_default-read_ac.is))
