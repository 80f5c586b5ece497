use Rattle.std.proofs.Common.{◌≡◌, ◌∷◌, true, false, refl, sym, ◌∙◌, inl, inr}
use Rattle.ace_check.proofs.Terms.{aw_kind_of, Aw, is_line_write, Recording}
use Rattle.ace_model.proofs.General.Options.{option_filter-is}
use Rattle.ace_model.proofs.Trace.Outstanding.{write_issued}
use Rattle.ace_lineck.proofs.Beginnings.{address-begins, address-roomy}
use Rattle.ace_sysck.proofs.ByKind.WriteAddresses.{system-begun}
use Rattle.ace_check.proofs.Addresses.{line-over, write-on_line, write-unshared}
use Rattle.ace_check.proofs.Rooms.{may-apply}
use Rattle.ace_check.proofs.WhatComes.{heard-broken, heard-over, system-roomy}
use Rattle.ace_check.proofs.shares.Shares.hear_aw.Goals as goal

pub returns-in_default : goal.returns-in_default
returns-in_default c = c.hear_lineless_aw.ensures (sym c.line_write_kind.ensures ∙ c.in_default.is)

pub returns-in-Some-rule_of_line_aw : goal.returns-in-Some-rule_of_line_aw
returns-in-Some-rule_of_line_aw c =
    let a = c.args in
    let k = c.in-Some.kind in
    let codes = option_filter-is is_line_write (aw_kind_of a.snoop a.dom a.bar) k (sym c.line_write_kind.ensures ∙ c.in-Some.is) in
    let e = Aw a.port a.id a.addr a.snoop a.dom a.bar in
    heard-broken a.self.now e c.in-Some-rule_of_line_aw.rule
    (λ h past s.
    sym c.in-Some-rule_of_line_aw.is ∙ c.rule_of_line_aw.ensures h past a.snoop a.dom a.bar s c.place-place.ensures (sym c.line_write_kind.ensures ∙ c.in-Some.is))

pub returns-then-is_line_too_many : goal.returns-then-is_line_too_many
returns-then-is_line_too_many c =
    let a = c.args in
    let k = c.in-Some.kind in
    let codes = option_filter-is is_line_write (aw_kind_of a.snoop a.dom a.bar) k (sym c.line_write_kind.ensures ∙ c.in-Some.is) in
    let e = Aw a.port a.id a.addr a.snoop a.dom a.bar in
    heard-over a.self.now e
    (λ h past s.
    let x = write_issued past a.port a.id a.addr a.snoop a.dom a.bar in
    let on = write-on_line past a.port a.id a.addr a.snoop a.dom a.bar k codes.0 codes.1 in (
      sym (c.rule_of_line_aw.ensures h past a.snoop a.dom a.bar s c.place-place.ensures (sym c.line_write_kind.ensures ∙ c.in-Some.is)) ∙ c.in_default-rule_of_line_aw.is,
      line-over a.self.now.most past e x refl on ∙ sym (c.is_line_too_many.ensures h past a.addr s c.place-place.ensures) ∙ c.if-is_line_too_many.true,
    ))

pub returns-in_default-make_record : goal.returns-in_default-make_record
returns-in_default-make_record c =
    let a = c.args in
    let s0 = a.self.now in
    let at = c.place-place.ensures in
    let k = c.in-Some.kind in
    let codes = option_filter-is is_line_write (aw_kind_of a.snoop a.dom a.bar) k (sym c.line_write_kind.ensures ∙ c.in-Some.is) in
    let e = Aw a.port a.id a.addr a.snoop a.dom a.bar in
    record {
      comes_to = λ h past s few.
          let r : Recording = record { header = h; past = past } in
          let x = write_issued past a.port a.id a.addr a.snoop a.dom a.bar in
          let on = write-on_line past a.port a.id a.addr a.snoop a.dom a.bar k codes.0 codes.1 in (
            sym (c.rule_of_line_aw.ensures h past a.snoop a.dom a.bar s at (sym c.line_write_kind.ensures ∙ c.in-Some.is)) ∙ c.in_default-rule_of_line_aw.is,
            inr (inl (address-begins s0.lines r e x s.lines refl on (c.in_default-make_record.ensures.cause at))),
            record { ports = s.ports; lines = c.make_record.ensures.stands r s.lines at; system = s.system },
          );
      most = refl;
      room = λ h past s may.
          let x = write_issued past a.port a.id a.addr a.snoop a.dom a.bar in
          let on = write-on_line past a.port a.id a.addr a.snoop a.dom a.bar k codes.0 codes.1 in
          let later = address-roomy 4096 past s0.lines e x refl on s.room.lines in
          let bad : false ≡ true = c.in_default-make_record.ensures.succeeds 4096 (e ∷ past) later.0 at later.1 may.lines in cc;
    }

pub returns : goal.returns
returns c =
    let a = c.args in
    let s0 = a.self.now in
    let at = c.place-place.ensures in
    let k = c.in-Some.kind in
    let codes = option_filter-is is_line_write (aw_kind_of a.snoop a.dom a.bar) k (sym c.line_write_kind.ensures ∙ c.in-Some.is) in
    let e = Aw a.port a.id a.addr a.snoop a.dom a.bar in
    record {
      comes_to = λ h past s few.
          let r : Recording = record { header = h; past = past } in
          let x = write_issued past a.port a.id a.addr a.snoop a.dom a.bar in
          let on = write-on_line past a.port a.id a.addr a.snoop a.dom a.bar k codes.0 codes.1 in
          let fine = sym (c.rule_of_line_aw.ensures h past a.snoop a.dom a.bar s at (sym c.line_write_kind.ensures ∙ c.in-Some.is)) ∙ c.in_default-rule_of_line_aw.is in
          let unshared = c.is_no_snoop_write.ensures ∙ sym (write-unshared past a.port a.id a.addr a.snoop a.dom a.bar k codes.0) in
          let ports-after = c.hear.ensures.stands r (may-apply s0.ports h past e s.ports fine few (λ p addr snoop is. cc)) in (
            fine,
            line-over a.self.now.most past e x refl on ∙ sym (c.is_line_too_many.ensures h past a.addr s at) ∙ c.if-is_line_too_many.false,
            record {
              ports = ports-after;
              lines = c.hear_address.ensures.stands r e x (c.make_record.ensures.stands r s.lines at) refl on unshared (c.in-Ok.ensures.room at) (c.in-Ok.ensures.made at) fine few;
              system = system-begun s0.system r a.port a.id a.addr a.snoop a.dom a.bar k s.system (sym c.line_write_kind.ensures ∙ c.in-Some.is) fine few ports-after.bytes.0;
            },
          );
      most = refl;
      room = λ h past s may.
          let x = write_issued past a.port a.id a.addr a.snoop a.dom a.bar in
          let on = write-on_line past a.port a.id a.addr a.snoop a.dom a.bar k codes.0 codes.1 in
          let later = address-roomy 4096 past s0.lines e x refl on s.room.lines in (
            refl,
            record {
              most = s.room.most;
              ports = c.hear.ensures.room 24576 s.room.ports;
              lines = c.hear_address.ensures.roomy 4096 (e ∷ past) (c.make_record.ensures.roomy 4096 (e ∷ past) later.0 at later.1);
              system = system-roomy e past s0.system s.room.system;
            },
          );
    }
