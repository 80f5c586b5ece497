use Rattle.std.proofs.Common.{refl, sym, ◌∙◌, inr}
use Rattle.ace_check.proofs.Terms.{G, outstanding, Recording}
use Rattle.ace_sysck.proofs.ByKind.Grants.{first-lock, grant-known}
use Rattle.ace_sysck.proofs.Steps.{progress_from}
use Rattle.ace_check.proofs.Rooms.{may-apply}
use Rattle.ace_check.proofs.Steps.{err_is_no_ok, from_err, from_ok}
use Rattle.ace_check.proofs.WhatComes.{heard-broken, lines-roomy, system-roomy}
use Rattle.ace_check.proofs.shares.Shares.hear_g.Goals as goal

pub returns-in-Err : goal.returns-in-Err
returns-in-Err c = heard-broken c.args.self.now _ c.in-Err.rule (λ h past s. c.in-Err.ensures.least (record { header = h; past = past }) s.ports s.lines s.system)

pub returns-then-is_err : goal.returns-then-is_err
returns-then-is_err c =
    let a = c.args in
    let s0 = a.self.now in
    let y = c.in-Ok.found.0.now in
    let err = sym c.is_err.ensures.value ∙ c.if-is_err.true in
    record {
      comes_to = λ h past s few.
          let r : Recording = record { header = h; past = past } in
          let fine = sym (c.in-Ok.ensures.least r s.ports s.lines s.system) in
          let out = progress_from h past (outstanding h past a.port a.chan a.id) y (c.in-Ok.ensures.found r s.ports).served in
          let lock = from_err c.make_lock_room.result err c.make_lock_room.ensures.locked in
          let none = from_err c.make_lock_room.result err c.make_lock_room.ensures.cause r s.system in (
            fine,
            inr (inr (first-lock s0.system r a.port a.chan a.id y.transaction s.system out fine lock none)),
            record { ports = s.ports; lines = s.lines; system = c.make_lock_room.ensures.stands r s.system },
          );
      most = refl;
      room = λ h past s may.
          let r : Recording = record { header = h; past = past } in
          let out = progress_from h past (outstanding h past a.port a.chan a.id) y (c.in-Ok.ensures.found r s.tell.ports).served in
          let known = grant-known s0.system r a.port a.chan a.id y.transaction s.tell.system out may.fine in
          absurd (err_is_no_ok c.make_lock_room.result err (c.make_lock_room.ensures.succeeds 4096 past known s.room.system may.lines));
    }

pub returns : goal.returns
returns c =
    let a = c.args in
    let s0 = a.self.now in
    let e = G a.port a.chan a.id in
    let y = c.in-Ok.found.0.now in
    record {
      comes_to = λ h past s few.
          let r : Recording = record { header = h; past = past } in
          let fine = sym (c.in-Ok.ensures.least r s.ports s.lines s.system) in
          let f = c.in-Ok.ensures.found r s.ports in
          let out = progress_from h past (outstanding h past a.port a.chan a.id) y f.served in
          let made = from_ok c.make_lock_room.result (sym c.is_err.ensures.value ∙ c.if-is_err.false) c.make_lock_room.ensures.room in (
            fine,
            refl,
            record {
              ports = c.hear.ensures.stands r (may-apply s0.ports h past e s.ports fine few (λ p addr snoop is. cc));
              lines = c.hear_grant.ensures.stands r a.port a.chan a.id s.lines out f.at fine few;
              system = c.hear_grant-taken.ensures.stands r a.port a.chan a.id (c.make_lock_room.ensures.stands r s.system) out fine few (c.hear_grant-taken.ensures.takes made);
            },
          );
      most = refl;
      room = λ h past s may.
          let r : Recording = record { header = h; past = past } in
          let out = progress_from h past (outstanding h past a.port a.chan a.id) y (c.in-Ok.ensures.found r s.tell.ports).served in
          let known = grant-known s0.system r a.port a.chan a.id y.transaction s.tell.system out may.fine in (
            refl,
            record {
              most = s.room.most;
              ports = c.hear.ensures.room 24576 s.room.ports;
              lines = lines-roomy e past _ (c.hear_grant.ensures.roomy 4096 past s.room.lines);
              system = system-roomy e past c.hear_grant-taken.new.self (c.hear_grant-taken.ensures.roomy 4096 past (c.make_lock_room.ensures.roomy 4096 past known s.room.system));
            },
          );
    }
