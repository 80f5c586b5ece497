use Rattle.std.proofs.Common.{◌≡◌, ◌∷◌, true, false, length, refl, sym, ◌∙◌, inl, inr}
use Rattle.ace_check.proofs.Terms.{ar_kind_of, Ar, is_line_read, Recording}
use Rattle.ace_model.proofs.General.Options.{option_filter-is}
use Rattle.ace_portck.proofs.ReadAddresses.{read_of}
use Rattle.ace_lineck.proofs.Beginnings.{address-begins, address-roomy}
use Rattle.ace_check.proofs.Addresses.{line-over, read-on_line, read-unshared}
use Rattle.ace_check.proofs.Rooms.{may-apply}
use Rattle.ace_check.proofs.WhatComes.{heard-broken, heard-over, system-roomy}
use Rattle.ace_check.proofs.shares.Shares.hear_ar.Goals as goal

pub returns-in_default : goal.returns-in_default
returns-in_default c = c.hear_lineless_ar.ensures (sym c.line_read_kind.ensures ∙ c.in_default.is)

pub returns-in-Some-rule_of_line_ar : goal.returns-in-Some-rule_of_line_ar
returns-in-Some-rule_of_line_ar c =
    let a = c.args in
    let k = c.in-Some.kind in
    let codes = option_filter-is is_line_read (ar_kind_of a.snoop a.dom a.bar) k (sym c.line_read_kind.ensures ∙ c.in-Some.is) in
    let e = Ar a.port a.id a.addr a.snoop a.dom a.bar a.lock in
    heard-broken a.self.now e c.in-Some-rule_of_line_ar.rule
    (λ h past s.
    sym c.in-Some-rule_of_line_ar.is ∙ c.rule_of_line_ar.ensures h past a.snoop a.dom a.bar s c.place-place.ensures codes.0 codes.1)

pub returns-then-is_line_too_many : goal.returns-then-is_line_too_many
returns-then-is_line_too_many c =
    let a = c.args in
    let k = c.in-Some.kind in
    let codes = option_filter-is is_line_read (ar_kind_of a.snoop a.dom a.bar) k (sym c.line_read_kind.ensures ∙ c.in-Some.is) in
    let e = Ar a.port a.id a.addr a.snoop a.dom a.bar a.lock in
    heard-over a.self.now e
    (λ h past s.
    let x = read_of (length past) a.port a.id a.addr a.snoop a.dom a.bar a.lock in
    let on = read-on_line (length past) a.port a.id a.addr a.snoop a.dom a.bar a.lock k codes.0 codes.1 in (
      sym (c.rule_of_line_ar.ensures h past a.snoop a.dom a.bar s c.place-place.ensures codes.0 codes.1) ∙ c.in_default-rule_of_line_ar.is,
      line-over a.self.now.most past e x refl on ∙ sym (c.is_line_too_many.ensures h past a.addr s c.place-place.ensures) ∙ c.if-is_line_too_many.true,
    ))

pub returns-in_default-make_record : goal.returns-in_default-make_record
returns-in_default-make_record c =
    let a = c.args in
    let s0 = a.self.now in
    let at = c.place-place.ensures in
    let k = c.in-Some.kind in
    let codes = option_filter-is is_line_read (ar_kind_of a.snoop a.dom a.bar) k (sym c.line_read_kind.ensures ∙ c.in-Some.is) in
    let e = Ar a.port a.id a.addr a.snoop a.dom a.bar a.lock in
    record {
      comes_to = λ h past s few.
          let r : Recording = record { header = h; past = past } in
          let x = read_of (length past) a.port a.id a.addr a.snoop a.dom a.bar a.lock in
          let on = read-on_line (length past) a.port a.id a.addr a.snoop a.dom a.bar a.lock k codes.0 codes.1 in (
            sym (c.rule_of_line_ar.ensures h past a.snoop a.dom a.bar s at codes.0 codes.1) ∙ c.in_default-rule_of_line_ar.is,
            inr (inl (address-begins s0.lines r e x s.lines refl on (c.in_default-make_record.ensures.cause at))),
            record { ports = s.ports; lines = c.make_record.ensures.stands r s.lines at; system = s.system },
          );
      most = refl;
      room = λ h past s may.
          let x = read_of (length past) a.port a.id a.addr a.snoop a.dom a.bar a.lock in
          let on = read-on_line (length past) a.port a.id a.addr a.snoop a.dom a.bar a.lock k codes.0 codes.1 in
          let later = address-roomy 4096 past s0.lines e x refl on s.room.lines in
          let bad : false ≡ true = c.in_default-make_record.ensures.succeeds 4096 (e ∷ past) later.0 at later.1 may.lines in cc;
    }

pub returns : goal.returns
returns c =
    let a = c.args in
    let s0 = a.self.now in
    let at = c.place-place.ensures in
    let k = c.in-Some.kind in
    let codes = option_filter-is is_line_read (ar_kind_of a.snoop a.dom a.bar) k (sym c.line_read_kind.ensures ∙ c.in-Some.is) in
    let e = Ar a.port a.id a.addr a.snoop a.dom a.bar a.lock in
    record {
      comes_to = λ h past s few.
          let r : Recording = record { header = h; past = past } in
          let x = read_of (length past) a.port a.id a.addr a.snoop a.dom a.bar a.lock in
          let on = read-on_line (length past) a.port a.id a.addr a.snoop a.dom a.bar a.lock k codes.0 codes.1 in
          let fine = sym (c.rule_of_line_ar.ensures h past a.snoop a.dom a.bar s at codes.0 codes.1) ∙ c.in_default-rule_of_line_ar.is in
          let unshared = c.is_no_snoop_read.ensures ∙ sym (read-unshared (length past) a.port a.id a.addr a.snoop a.dom a.bar a.lock k codes.0) in (
            fine,
            line-over a.self.now.most past e x refl on ∙ sym (c.is_line_too_many.ensures h past a.addr s at) ∙ c.if-is_line_too_many.false,
            record {
              ports = c.hear.ensures.stands r (may-apply s0.ports h past e s.ports fine few (λ p addr snoop is. cc));
              lines = c.hear_address.ensures.stands r e x (c.make_record.ensures.stands r s.lines at) refl on unshared (c.in-Ok.ensures.room at) (c.in-Ok.ensures.made at) fine few;
              system = c.begin_line_read.ensures.stands r a.addr a.snoop a.dom a.bar a.lock k s.system codes.0 codes.1 fine few;
            },
          );
      most = refl;
      room = λ h past s may.
          let x = read_of (length past) a.port a.id a.addr a.snoop a.dom a.bar a.lock in
          let on = read-on_line (length past) a.port a.id a.addr a.snoop a.dom a.bar a.lock k codes.0 codes.1 in
          let later = address-roomy 4096 past s0.lines e x refl on s.room.lines in (
            refl,
            record {
              most = s.room.most;
              ports = c.hear.ensures.room 24576 s.room.ports;
              lines = c.hear_address.ensures.roomy 4096 (e ∷ past) (c.make_record.ensures.roomy 4096 (e ∷ past) later.0 at later.1);
              system = system-roomy e past c.begin_line_read.new.self (c.begin_line_read.ensures.roomy 4096 past s.room.system);
            },
          );
    }
