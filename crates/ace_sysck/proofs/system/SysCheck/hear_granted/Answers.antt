use Rattle.std.proofs.Common.{◌∙◌, sym, ap}
use Rattle.ace_sysck.proofs.Terms.{option_copied, G, outstanding}
use Rattle.ace_portck.proofs.LineMaps.{room-stays}
use Rattle.ace_sysck.proofs.ByKind.Grants.{grant-known}
use Rattle.ace_sysck.proofs.Steps.{progress_from}
use Rattle.ace_sysck.proofs.WhatIsHeard.{grant-found, where-ok}
use Rattle.ace_sysck.proofs.system.SysCheck.hear_granted.Goals as goal

pub returns-in-Some : goal.returns-in-Some
returns-in-Some c = λ lines r m.
    let a = c.args in
    let h = r.header in
    let x = c.in-Some.x.now in
    let out = progress_from h r.past (outstanding h r.past a.port a.chan a.id) x (sym (c.outstanding.ensures r m.ports) ∙ ap option_copied c.in-Some.is) in
    let known = grant-known a.self.now r a.port a.chan a.id x.transaction m.stands out m.kept in
    let made = c.make_lock_room-room in
    let room = where-ok made.result (made.ensures.succeeds lines r.past known m.room m.few_lines) made.ensures.room in
    record {
      stands = c.hear_grant.ensures.stands r a.port a.chan a.id (made.ensures.stands r m.stands) out m.kept m.few (c.hear_grant.ensures.takes room);
      room = room-stays lines (G a.port a.chan a.id) r.past c.hear_grant.new.self.registrations.lines
          (c.hear_grant.ensures.roomy lines r.past (made.ensures.roomy lines r.past known m.room));
    }

pub returns-in_default : goal.returns-in_default
returns-in_default c = λ lines r m.
    let a = c.args in
    let none = sym (c.outstanding.ensures r m.ports) ∙ ap option_copied c.in_default.is in
    absurd (grant-found r.header r.past a.port a.chan a.id (m.stands.accepted, m.kept) none)
