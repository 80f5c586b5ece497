use Rattle.std.proofs.Common.{◌≡◌, slice_get, sym, ap, ◌∙◌, inl, inr, arith}
use Rattle.std.proofs.lemmas.Bool.{cases_eq}
use Rattle.ace_model.proofs.General.Options.{Some-injective}
use Rattle.ace_engine.proofs.Listed.{listed-at, listed-within}
use Rattle.ace_portck.specs.declared.target.Progress.{Progress}
use Rattle.ace_portck.specs.Pending.{pending_of}
use Rattle.ace_portck.specs.Targets.{progress_of}
use Rattle.ace_home.specs.Home.{goes_before}
use Rattle.ace_home.proofs.Outstanding.{of-channel}
use Rattle.ace_home.proofs.home.Home.has_older.Goals as goal

pub returns-then-goes_before-clause-found : goal.returns-then-goes_before-clause-found
returns-then-goes_before-clause-found c = λ _ plan past s.
    let h = plan.header in
    let list = c.queue-queue.ensures plan past s in
    let y = listed-at (progress_of h past) (pending_of h past c.args.port c.args.chan) c.queue-queue.result.now c.loop-i.i _ list c.loop-i-test.true in
    let same = ap (λ (v : Progress). v.transaction) y.2 in
    (y.0, of-channel h past c.args.port c.loop-i.i c.args.chan y.0 y.1, ap (λ v. goes_before h past v c.args.x.now) (sym same) ∙ sym (c.goes_before.ensures plan past s) ∙ c.if-goes_before.true)

pub loop-i-preserved : goal.loop-i-preserved
loop-i-preserved c = λ plan past k y s low at.
    let h = plan.header in
    elim (cases_eq k c.loop-i.i) [
      | inr earlier ↦ c.loop-i.invariant plan past k y s (omega (arith, low, earlier)) at
      | inl here ↦
          let list = c.queue-queue.ensures plan past s in
          let z = listed-at (progress_of h past) (pending_of h past c.args.port c.args.chan) c.queue-queue.result.now c.loop-i.i _ list c.loop-i-test.true in
          let told = ap (λ (v : Progress). v.transaction) z.2 in
          let same : z.0 ≡ y = Some-injective z.0 y (sym z.1 ∙ ap (slice_get (pending_of h past c.args.port c.args.chan)) (sym here) ∙ at) in
          ap (λ v. goes_before h past v c.args.x.now) (sym (told ∙ same)) ∙ sym (c.goes_before.ensures plan past s) ∙ c.if-goes_before.false
    ]

pub returns-clause-none : goal.returns-clause-none
returns-clause-none c = λ _ plan past k y s at.
    let h = plan.header in
    let list = c.queue-queue.ensures plan past s in
    let within = listed-within (progress_of h past) (pending_of h past c.args.port c.args.chan) c.queue-queue.result.now list k y at in
    let high = c.loop-i-test.false in
    let end = c.loop-i.auto.i-end in
    c.loop-i.invariant plan past k y s (omega (arith, within, high, end)) at
