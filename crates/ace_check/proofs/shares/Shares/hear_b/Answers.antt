use Rattle.std.proofs.Common.{◌≡◌, true, refl, ◌∙◌}
use Rattle.ace_check.proofs.Terms.{Write, B, is_barrier_half, outstanding}
use Rattle.ace_lineck.proofs.BarrierResponses.{lines_unmoved_by_response}
use Rattle.ace_sysck.proofs.ByKind.LineResponses.{system_unmoved_by_response}
use Rattle.ace_sysck.proofs.Steps.{progress_from}
use Rattle.ace_check.proofs.ResponseLaws.{no_line-half}
use Rattle.ace_check.proofs.WhatComes.{heard-broken, heard-plain}
use Rattle.ace_check.proofs.shares.Shares.hear_b.Goals as goal

pub returns-in-Err : goal.returns-in-Err
returns-in-Err c = heard-broken c.args.self.now _ c.in-Err.rule (λ h past s. c.in-Err.ensures.least (record { header = h; past = past }) s.ports s.lines s.system)

pub returns-in-None : goal.returns-in-None
returns-in-None c =
    let a = c.args in
    let s0 = a.self.now in
    let x = c.in-Ok.found.0.now in
    heard-plain s0 _ (B a.port a.id a.resp) refl (λ h past s. c.in-Ok.ensures.least (record { header = h; past = past }) s.ports s.lines s.system) c.hear.ensures.stands c.hear.ensures.room refl
    (λ r s fine few.
    let f = c.in-Ok.ensures.found r s.ports in
    let out = progress_from r.header r.past (outstanding r.header r.past a.port Write a.id) x f.0 in
    let half : is_barrier_half x.transaction ≡ true = no_line-half r.header r.past a.port a.id x.transaction s.ports.accepted out (f.1 ∙ c.in-None.is) in
    (lines_unmoved_by_response s0.lines r a.port a.id a.resp x.transaction s.lines out half fine, c.complete_transaction.ensures.response r a.port a.id a.resp s.system out fine few))
    (λ past room. room) (c.complete_transaction.ensures.roomy 4096)

pub returns-in-Some : goal.returns-in-Some
returns-in-Some c =
    let a = c.args in
    let s0 = a.self.now in
    let x = c.in-Ok.found.0.now in
    heard-plain s0 _ (B a.port a.id a.resp) refl (λ h past s. c.in-Ok.ensures.least (record { header = h; past = past }) s.ports s.lines s.system) c.hear-in-Some.ensures.stands c.hear-in-Some.ensures.room refl
    (λ r s fine few.
    let f = c.in-Ok.ensures.found r s.ports in
    let out = progress_from r.header r.past (outstanding r.header r.past a.port Write a.id) x f.0 in (
      c.hear_response.ensures.stands r a.port a.id a.resp c.in-Some.field-0 s.lines f.0 (f.1 ∙ c.in-Some.is) fine few,
      system_unmoved_by_response s0.system r a.port a.id a.resp x.transaction c.in-Some.field-0 s.system out (f.1 ∙ c.in-Some.is) fine few,
    ))
    (c.hear_response.ensures.roomy 4096) (λ past room. room)
