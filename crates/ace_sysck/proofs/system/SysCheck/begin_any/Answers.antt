use Rattle.std.proofs.Common.{◌≡◌, ◌∙◌, true, refl, sym}
use Rattle.ace_sysck.proofs.Terms.{is_barrier_half, may_be_exclusive}
use Rattle.ace_sysck.proofs.ByKind.Responses.{half_other}
use Rattle.ace_sysck.proofs.WhatIsHeard.{completion-heard, next, unlocked}
use Rattle.ace_sysck.proofs.system.SysCheck.begin_any.Goals as goal

pub returns-then-is_barrier_half : goal.returns-then-is_barrier_half
returns-then-is_barrier_half c = λ p lines r e new m.
    let x = c.args.x.now in
    let half : is_barrier_half x ≡ true = sym c.is_barrier_half.ensures ∙ c.if-is_barrier_half.true in
    let lock = unlocked r.header r.past e x (m.stands.accepted, m.kept) new (half_other x may_be_exclusive refl half) in
    next c.args.self.now c.begin_barrier.new.self p lines r e m
    (c.begin_barrier.ensures.stands r e m.stands (record { issues = new; half = half; unlocked = lock }) m.kept m.few) c.begin_barrier.ensures.roomy

pub returns-then-is_message_part : goal.returns-then-is_message_part
returns-then-is_message_part c = λ p lines r e new m.
    next c.args.self.now c.begin_message.new.self p lines r e m
    (c.begin_message.ensures.stands r e m.stands new (sym c.is_message_part.ensures ∙ c.if-is_message_part.true) m.kept m.few) c.begin_message.ensures.roomy

pub returns-then-is_dvm_completion : goal.returns-then-is_dvm_completion
returns-then-is_dvm_completion c = λ p lines r e new m.
    next c.args.self.now c.begin_completion.new.self p lines r e m
    (completion-heard r c.begin_completion.new.self e c.args.x.now new (sym c.is_dvm_completion.ensures ∙ c.if-is_dvm_completion.true)
    (m.stands.accepted, m.kept)
    (λ addr snoop dom bar lock is fine. c.begin_completion.ensures.stands r addr snoop dom bar lock m.stands is fine m.few)) c.begin_completion.ensures.roomy

pub returns-else-is_dvm_completion : goal.returns-else-is_dvm_completion
returns-else-is_dvm_completion c = λ p lines r e new m.
    c.begin_line_transaction.ensures p lines r e (record {
      issues = new;
      half = sym c.is_barrier_half.ensures ∙ c.if-is_barrier_half.false;
      part = sym c.is_message_part.ensures ∙ c.if-is_message_part.false;
      completion = sym c.is_dvm_completion.ensures ∙ c.if-is_dvm_completion.false;
    }) m
