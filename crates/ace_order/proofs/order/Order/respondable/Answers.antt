use Rattle.std.proofs.Common.{◌≡◌, ◌<◌, false, slice_get, sym, ap, subst, ◌∙◌, inl, inr, arith}
use Rattle.std.proofs.lemmas.Bool.{cases_eq}
use Rattle.ace_event.specs.declared.event.Channel.TheVariants.{Read}
use Rattle.ace_model.proofs.General.Options.{Some-injective}
use Rattle.ace_runs.specs.Bursts.{may_begin}
use Rattle.ace_runs.specs.OrderSteps.{dvm_burst}
use Rattle.ace_portck.specs.declared.target.Progress.{Progress}
use Rattle.ace_portck.specs.Pending.{pending_of}
use Rattle.ace_portck.specs.Targets.{Recording, progress_of}
use Rattle.ace_order.specs.Order.{IsRespondable}
use Rattle.ace_order.proofs.DvmSteps.{dvm-none, serves-none}
use Rattle.ace_order.proofs.WithoutDvm.{no-dvm}
use Rattle.ace_engine.proofs.Listed.{listed-at, listed-within}
use Rattle.ace_model.specs.declared.transactions.Transaction.{Transaction}
use Rattle.ace_model.specs.Messages.{is_message_part}
use Rattle.ace_order.proofs.AnsweredInOrder.{behind-waits, unanswered-still}
use Rattle.ace_order.proofs.order.Order.respondable.Goals.{else-not-is_behind-via-then-not-is_behind+else-may_respond, else-not-is_behind-via-else-not-is_behind}
use Rattle.ace_order.proofs.order.Order.respondable.Goals as goal

pub returns-then-has-clause-none : goal.returns-then-has-clause-none
returns-then-has-clause-none c = λ _ plan past s.
    let h = plan.header in
    let p = c.args.port in
    let none = s.current.quiet p (sym c.has.ensures ∙ c.if-has.true) in
    serves-none h past p (λ k x at. dvm-none h past x (no-dvm h past p none k x at))

pub returns-then-may_respond-clause-some : goal.returns-then-may_respond-clause-some
returns-then-may_respond-clause-some c = λ x is plan past s.
    let h = plan.header in
    let r : Recording = record { header = h; past = past } in
    let list = c.reads-reads.ensures r s.current.ports in
    let y = listed-at (progress_of h past) (pending_of h past c.args.port Read) c.reads-reads.result.now c.loop-i.i _ list c.loop-i-test.true in
    let due = c.may_respond.ensures plan past c.args.port c.loop-i.i y.0 s y.1 y.2 in
    let same : y.0 ≡ x = ap (λ (v : Progress). v.transaction) (sym y.2) ∙ Some-injective _ x is in
    subst (IsRespondable h past c.args.port) same (record { pending = (c.loop-i.i, y.1); begins = sym due ∙ c.if-may_respond.true })

pub loop-i-init : goal.loop-i-init
loop-i-init c = (λ plan past k x s low at. absurd (omega (arith, low)), λ n plan past is s. cc)

pub loop-i-preserved : goal.loop-i-preserved
loop-i-preserved c = (
  λ plan past k x s low at.
      let h = plan.header in
      let r : Recording = record { header = h; past = past } in
      elim (cases_eq k c.loop-i.i) [
        | inr earlier ↦ c.loop-i.invariant.0 plan past k x s (omega (arith, low, earlier)) at
        | inl here ↦
            let list = c.reads-reads.ensures r s.current.ports in
            let y = listed-at (progress_of h past) (pending_of h past c.args.port Read) c.reads-reads.result.now c.loop-i.i _ list c.loop-i-test.true in
            let same : y.0 ≡ x = Some-injective y.0 x (sym y.1 ∙ ap (slice_get (pending_of h past c.args.port Read)) (sym here) ∙ at) in
            subst (λ v. may_begin h past (dvm_burst h past v) ≡ false) same (elim c.else-not-is_behind.branch [
              | else-not-is_behind-via-then-not-is_behind+else-may_respond w ↦
                  sym (w.may_respond.ensures plan past c.args.port c.loop-i.i y.0 s y.1 y.2) ∙ w.if-may_respond.false
              | else-not-is_behind-via-else-not-is_behind w ↦
                  let b = c.is_behind.ensures w.if-not-is_behind.false in
                  let told = ap (λ (v : Progress). v.transaction) y.2 in
                  behind-waits h past s.current.legal.accepted c.args.port c.loop-i.i b.0 (c.loop-i.invariant.1 b.0 plan past b.1 s)
                  (λ j z few there. c.loop-i.invariant.0 plan past j z s few there) c.loop-i.i y.0 y.1 (ap is_message_part (sym told) ∙ b.3)
                  (subst (λ (v : Transaction). b.0 < v.place) told b.2)
            ])
      ],
  λ n plan past is s.
      let h = plan.header in
      let r : Recording = record { header = h; past = past } in
      elim (c.first_unanswered-unanswered.ensures n is) [
        | inl before ↦ unanswered-still h past c.args.port c.loop-i.i n (c.loop-i.invariant.1 n plan past before s)
        | inr new ↦
            let list = c.reads-reads.ensures r s.current.ports in
            let y = listed-at (progress_of h past) (pending_of h past c.args.port Read) c.reads-reads.result.now c.loop-i.i _ list c.loop-i-test.true in
            let told = ap (λ (v : Progress). v.transaction) y.2 in
            record {
              number = c.loop-i.i;
              part = y.0;
              low = omega arith;
              there = y.1;
              place = ap (λ (v : Transaction). v.place) (sym told) ∙ sym new.0;
              message = ap is_message_part (sym told) ∙ new.2;
              undone = ap (λ (v : Progress). v.complete) (sym y.2) ∙ new.3;
            }
      ],
)

pub returns-clause-none : goal.returns-clause-none
returns-clause-none c = λ none plan past s.
    let h = plan.header in
    let r : Recording = record { header = h; past = past } in
    let list = c.reads-reads.ensures r s.current.ports in
    serves-none h past c.args.port (λ k x at. c.loop-i.invariant.0 plan past k x s
    (let within = listed-within (progress_of h past) (pending_of h past c.args.port Read) c.reads-reads.result.now list k x at in let high = c.loop-i-test.false in let end = c.loop-i.auto.i-end in omega (arith, within, high, end)) at)
