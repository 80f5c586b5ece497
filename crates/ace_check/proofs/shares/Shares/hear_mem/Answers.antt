use Rattle.std.proofs.Common.{◌≡◌, false, true, refl, sym, ◌∙◌, inl, inr}
use Rattle.ace_check.proofs.Terms.{Mem, Recording}
use Rattle.ace_sysck.proofs.Unmoved.{system_still}
use Rattle.ace_check.proofs.Rooms.{may-apply}
use Rattle.ace_check.proofs.WhatComes.{heard-broken}
use Rattle.ace_check.proofs.shares.Shares.hear_mem.Goals as goal

pub returns-in-Some : goal.returns-in-Some
returns-in-Some c =
    let a = c.args in
    let e = Mem a.addr a.line.now in
    heard-broken a.self.now e c.in-Some.rule
    (λ h past s. sym c.in-Some.is ∙ c.rule_of_mem.ensures h past a.line.now s)

pub returns-in_default-make_record : goal.returns-in_default-make_record
returns-in_default-make_record c =
    let a = c.args in
    let e = Mem a.addr a.line.now in
    record {
      comes_to = λ h past s few.
          let r : Recording = record { header = h; past = past } in
          let fine = sym (c.rule_of_mem.ensures h past a.line.now s) ∙ c.in_default.is in
          (fine, inr (inl tt), record { ports = s.ports; lines = c.make_record.ensures.stands r s.lines c.place-place.ensures; system = s.system });
      most = refl;
      room = λ h past s may. let bad : false ≡ true = may.port in cc;
    }

pub returns : goal.returns
returns c =
    let a = c.args in
    let s0 = a.self.now in
    let e = Mem a.addr a.line.now in
    record {
      comes_to = λ h past s few.
          let r : Recording = record { header = h; past = past } in
          let at = c.place-place.ensures in
          let fine = sym (c.rule_of_mem.ensures h past a.line.now s) ∙ c.in_default.is in (
            fine,
            refl,
            record {
              ports = c.hear.ensures.stands r (may-apply s0.ports h past e s.ports fine few (λ p addr snoop is. cc));
              lines = c.hear_mem.ensures.stands r a.addr (c.make_record.ensures.stands r s.lines at) (c.in-Ok.ensures.room at) (c.in-Ok.ensures.made at) fine few;
              system = system_still s0.system r e refl s.system fine few;
            },
          );
      most = refl;
      room = λ h past s may. let bad : false ≡ true = may.port in cc;
    }
