use Rattle.std.proofs.Common.{sym, ◌∙◌, refl, inl}
use Rattle.ace_check.proofs.Terms.{Ac, Recording}
use Rattle.ace_lineck.proofs.MessageSnoops.{lines-unmoved}
use Rattle.ace_sysck.proofs.ByKind.LineSnoops.{system_still}
use Rattle.ace_check.proofs.Rooms.{room-for-next}
use Rattle.ace_check.proofs.Snooping.{line-by-kind}
use Rattle.ace_check.proofs.Steps.{err_is_no_ok, from_err, from_ok}
use Rattle.ace_check.proofs.WhatComes.{heard-broken, heard-fine}
use Rattle.ace_check.proofs.shares.Shares.hear_ac.Goals as goal

pub returns-in-Err : goal.returns-in-Err
returns-in-Err c = heard-broken c.args.self.now _ c.in-Err.rule c.in-Err.ensures.least

pub returns-then-is_err : goal.returns-then-is_err
returns-then-is_err c =
    let a = c.args in
    let err = sym c.is_err.ensures.value ∙ c.if-is_err.true in
    record {
      comes_to = λ h past s few.
          let r : Recording = record { header = h; past = past } in (
            sym (c.in-Ok.ensures.least h past s),
            inl (from_err c.make_snoop_room.result err c.make_snoop_room.ensures.cause r a.addr a.snoop s.ports),
            record { ports = c.make_snoop_room.ensures.stands r s.ports; lines = s.lines; system = s.system },
          );
      most = refl;
      room = λ h past s may.
          let there = room-for-next h past (Ac a.port a.addr a.snoop) 24576 a.self.now.ports s.tell.ports.ports s.room.ports may.snoops in
          absurd (err_is_no_ok c.make_snoop_room.result err (c.make_snoop_room.ensures.succeeds a.addr a.snoop there));
    }

pub returns-then-is_line_snoop : goal.returns-then-is_line_snoop
returns-then-is_line_snoop c =
    let a = c.args in
    let s0 = a.self.now in
    let on = sym c.is_line_snoop.ensures ∙ c.if-is_line_snoop.true in
    let f = c.in-Ok.ensures.found in
    let one = line-by-kind a.snoop c.in-Ok.found.0 _ f.0 on in
    heard-fine s0 _ (Ac a.port a.addr a.snoop) refl
    (λ h past s few.
    let r : Recording = record { header = h; past = past } in
    let fine = sym (c.in-Ok.ensures.least h past s) in
    let room = from_ok c.make_snoop_room.result (sym c.is_err.ensures.value ∙ c.if-is_err.false) c.make_snoop_room.ensures.room a.addr a.snoop in (
      fine,
      refl,
      record {
        ports = c.hear.ensures.stands r (record { stands = c.make_snoop_room.ensures.stands r s.ports; room = room; keeps = fine; few = few });
        lines = c.hear_snoop.ensures.stands r a.addr a.snoop (record { stands = s.lines; line = one; at = f.1 on; kept = fine; few = few });
        system = system_still r s0.system a.port a.addr a.snoop s.system (s.system.accepted, fine) one few;
      },
    ))
    (λ room. c.hear.ensures.room 24576 (c.make_snoop_room.ensures.roomy 24576 room)) (c.hear_snoop.ensures.roomy 4096) (λ past room. room)

pub returns : goal.returns
returns c =
    let a = c.args in
    let s0 = a.self.now in
    let f = c.in-Ok.ensures.found in
    let off = line-by-kind a.snoop c.in-Ok.found.0 _ f.0 (sym c.is_line_snoop.ensures ∙ c.if-is_line_snoop.false) in
    heard-fine s0 _ (Ac a.port a.addr a.snoop) refl
    (λ h past s few.
    let r : Recording = record { header = h; past = past } in
    let fine = sym (c.in-Ok.ensures.least h past s) in
    let room = from_ok c.make_snoop_room.result (sym c.is_err.ensures.value ∙ c.if-is_err.false) c.make_snoop_room.ensures.room a.addr a.snoop in (
      fine,
      refl,
      record {
        ports = c.hear.ensures.stands r (record { stands = c.make_snoop_room.ensures.stands r s.ports; room = room; keeps = fine; few = few });
        lines = lines-unmoved s0.lines r a.port a.addr a.snoop s.lines off fine;
        system = c.hear_message_snoop.ensures.stands r a.addr a.snoop s.system f.0 fine few;
      },
    ))
    (λ room. c.hear.ensures.room 24576 (c.make_snoop_room.ensures.roomy 24576 room)) (λ past room. room) (c.hear_message_snoop.ensures.roomy 4096)
