use Rattle.std.proofs.Common.{◌≡◌, Some, sym, subst, ◌∙◌}
use Rattle.ace_model.proofs.General.Options.{Some-injective}
use Rattle.ace_runs.specs.Bursts.{is_kept}
use Rattle.ace_runs.specs.OrderSteps.{plain_transfer}
use Rattle.ace_sysck.specs.declared.barriers.OpenPair.{OpenPair}
use Rattle.ace_sysck.specs.Barriers.{TellsOpenPair, pair_in}
use Rattle.ace_order.specs.Order.{IsAnswerable}
use Rattle.ace_order.proofs.BarrierSteps.{none-kept, none-open, none-waiting, open-waits, read-half, waits-plain}
use Rattle.ace_order.proofs.PlainReads.{named-out, plain-decides}
use Rattle.ace_order.proofs.order.Order.answerable.Goals as goal

pub returns-then-has-clause-none : goal.returns-then-has-clause-none
returns-then-has-clause-none c = λ _ plan past s.
    let p = c.args.port in
    none-waiting plan.header past p _ s.current.legal.accepted s.answered (s.current.system.barriers.ports p) (s.current.waiting p (sym c.has.ensures ∙ c.if-has.true))

pub returns-in_default-clause-none : goal.returns-in_default-clause-none
returns-in_default-clause-none c = λ _ plan past s.
    let tells = c.open_pair.ensures (record { header = plan.header; past = past }) s.current.system in
    none-open plan.header past c.args.port s.current.legal.accepted (subst (TellsOpenPair past c.args.port) c.in_default.is tells)

pub returns-then-lets_answer-clause-some : goal.returns-then-lets_answer-clause-some
returns-then-lets_answer-clause-some c = λ b is plan past s.
    let h = plan.header in
    let p = c.args.port in
    let read = c.in-Some.pair.read in
    let told = c.open_pair.ensures (record { header = h; past = past }) s.current.system in
    let tells : TellsOpenPair past p (Some c.in-Some.pair) = subst (TellsOpenPair past p) c.in-Some.is told in
    let w = open-waits h past p c.in-Some.pair s.current.legal.accepted s.answered tells in
    let plain = waits-plain h past p (pair_in c.in-Some.pair) w in
    let asked = c.lets_answer.ensures plan past s.current (named-out h past read plain) (read-half h past p (pair_in c.in-Some.pair) w) in
    let kept : c.lets_answer.result ≡ is_kept h past (plain_transfer read) = asked ∙ plain-decides h past read plain w.read_undone in
    subst (λ (v : OpenPair). IsAnswerable h past p (pair_in v)) (Some-injective c.in-Some.pair b is)
    (record { number = w.number; there = w.there; undone = w.read_undone; kept = sym kept ∙ c.if-lets_answer.true })

pub returns-else-lets_answer-clause-none : goal.returns-else-lets_answer-clause-none
returns-else-lets_answer-clause-none c = λ _ plan past s.
    let h = plan.header in
    let p = c.args.port in
    let read = c.in-Some.pair.read in
    let told = c.open_pair.ensures (record { header = h; past = past }) s.current.system in
    let tells : TellsOpenPair past p (Some c.in-Some.pair) = subst (TellsOpenPair past p) c.in-Some.is told in
    let w = open-waits h past p c.in-Some.pair s.current.legal.accepted s.answered tells in
    let plain = waits-plain h past p (pair_in c.in-Some.pair) w in
    let asked = c.lets_answer.ensures plan past s.current (named-out h past read plain) (read-half h past p (pair_in c.in-Some.pair) w) in
    let kept : c.lets_answer.result ≡ is_kept h past (plain_transfer read) = asked ∙ plain-decides h past read plain w.read_undone in
    none-kept h past p c.in-Some.pair s.current.legal.accepted tells (sym kept ∙ c.if-lets_answer.false)
