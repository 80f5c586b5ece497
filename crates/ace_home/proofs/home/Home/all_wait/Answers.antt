use Rattle.std.proofs.Common.{◌-◌, length, slice_get, sym, ap, subst, ◌∙◌, inl, inr, arith}
use Rattle.std.proofs.lemmas.Bool.{cases_eq}
use Rattle.ace_engine.proofs.Listed.{listed-within}
use Rattle.ace_portck.specs.Pending.{pending_of}
use Rattle.ace_portck.specs.Targets.{progress_of}
use Rattle.ace_home.specs.Resting.{HasToWait}
use Rattle.ace_home.proofs.Kept.{listed-tells}
use Rattle.ace_home.proofs.home.Home.all_wait.Goals as goal

pub loop-i-init : goal.loop-i-init
loop-i-init c = λ plan past k y s high at.
    let h = plan.header in
    let list = c.queue-queue.ensures plan past s in
    let within = listed-within (progress_of h past) (pending_of h past c.args.port c.args.chan) c.queue-queue.result.now list k y at in
    absurd (omega (arith, high, within))

pub loop-i-preserved : goal.loop-i-preserved
loop-i-preserved c = λ plan past k y s high at.
    let h = plan.header in
    let list = c.queue-queue.ensures plan past s in
    let within = listed-within (progress_of h past) (pending_of h past c.args.port c.args.chan) c.queue-queue.result.now list k y at in
    let n = length c.queue-queue.result.now - 1 - c.loop-i.i in
    let test = c.loop-i-test.true in
    elim (cases_eq k n) [
      | inr later ↦ c.loop-i.invariant plan past k y s (omega (arith, high, within, later, test)) at
      | inl here ↦
          let t = listed-tells c.args.self.now plan past c.args.port c.args.chan c.queue-queue.result.now n _ s list (omega (arith, test)) in
          subst (HasToWait h past) (t.1 y (ap (slice_get (pending_of h past c.args.port c.args.chan)) (sym here) ∙ at))
          (c.has_to_wait.ensures c.if-not-has_to_wait.false plan past c.args.port t.0)
    ]

pub returns : goal.returns
returns c = λ _ plan past k y s at.
    let high = c.loop-i-test.false in
    let end = c.loop-i.auto.i-end in
    c.loop-i.invariant plan past k y s (omega (arith, high, end)) at
