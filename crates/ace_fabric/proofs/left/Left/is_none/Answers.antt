use Rattle.std.proofs.Common.{◌≡◌, ℕ, true, inl, inr, sym, subst, ◌∙◌, arith}
use Rattle.std.proofs.lemmas.Bool.{cases_eq}
use Rattle.ace_fabric.specs.Left.{is_port_done}
use Rattle.ace_fabric.proofs.WhatIsLeft.{all-done, not-done}
use Rattle.ace_fabric.proofs.left.Left.is_none.Goals as goal

pub returns-then-not-is_port_done : goal.returns-then-not-is_port_done
returns-then-not-is_port_done c = λ plan past s.
    let off = c.is_port_done.ensures plan past s in
    let count = s.count in
    let ports = c.requires in
    let low = c.loop-port-test.true in
    sym (not-done plan past c.loop-port.port (omega (arith, low, ports, count)) (sym off ∙ c.if-not-is_port_done.true))

pub loop-port-preserved : goal.loop-port-preserved
loop-port-preserved c = λ plan past s p low.
    elim (cases_eq p c.loop-port.port) [
      | inl here ↦ subst (λ (q : ℕ). is_port_done plan past q ≡ true) (sym here) (sym (c.is_port_done.ensures plan past s) ∙ c.if-not-is_port_done.false)
      | inr off ↦ c.loop-port.invariant plan past s p (omega (arith, low, off))
    ]

pub returns : goal.returns
returns c = λ plan past s.
    let count = s.count in
    let ports = c.requires in
    let over = c.loop-port-test.false in
    sym (all-done plan past s.legal.accepted (λ p low. c.loop-port.invariant plan past s p (omega (arith, low, ports, count, over))))
