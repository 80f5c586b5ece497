use Rattle.std.proofs.Common.{◌≡◌, ◌<◌, ◌∷◌, ◌++◌, [], List, length, sym, ap, subst, ◌∙◌, arith, refl}
use Rattle.ace_event.specs.declared.event.Event.{Event}
use Rattle.ace_event.specs.declared.event.Event.TheVariants.{B}
use Rattle.ace_runs.specs.OrderSteps.{plain_transfer}
use Rattle.ace_engine.specs.Engines.{IsLegal}
use Rattle.ace_sysck.specs.Barriers.{pair_in}
use Rattle.ace_order.specs.Order.{IsCurrent, IsTurn}
use Rattle.ace_order.proofs.BarrierSteps.{answerable-waits, legal-answer, legal-transfer, pair-step, pair-together}
use Rattle.ace_order.proofs.Others.{whole-next}
use Rattle.ace_order.proofs.order.Order.answer.Goals as goal

pub returns : goal.returns
returns c = λ plan past p s d.
    let h = plan.header in
    let b = pair_in c.args.pair.now in
    let w = answerable-waits h past p b s.current.legal.accepted s.answered d in
    let transfer : Event = plain_transfer b.read in
    let answer : Event = B b.write.port b.write.id 0 in
    let e : c.plain_transfer.result ≡ transfer = c.plain_transfer.ensures in
    let f : c.response.result ≡ answer = c.response.ensures in
    let none : length c.args.out.now < 16 = subst (λ (es : List Event). length es < 16) (sym c.requires) (omega arith) in
    let one : c.put.new.out ≡ transfer ∷ [] = c.put.ensures.burst none ∙ ap (λ (es : List Event). es ++ c.plain_transfer.result ∷ []) c.requires ∙ ap (λ (v : Event). v ∷ []) e in
    let few : length c.put.new.out < 16 = subst (λ (es : List Event). length es < 16) (sym one) (omega arith) in
    let both : c.put-2.new.out ≡ transfer ∷ answer ∷ [] = c.put-2.ensures.burst few ∙ ap (λ (es : List Event). es ++ c.response.result ∷ []) one ∙ ap (λ (v : Event). transfer ∷ v ∷ []) f in
    let first : IsCurrent c.put.new.self plan (transfer ∷ past) =
    subst (λ v. IsLegal plan (v ∷ past) → IsCurrent c.put.new.self plan (v ∷ past)) e (c.put.ensures.current plan past s.current) (legal-transfer plan past s.current.legal p b w d.kept) in
    let second : IsCurrent c.put-2.new.self plan (answer ∷ transfer ∷ past) =
    subst (λ v. IsLegal plan (v ∷ transfer ∷ past) → IsCurrent c.put-2.new.self plan (v ∷ transfer ∷ past)) f (c.put-2.ensures.current plan (transfer ∷ past) first)
    (legal-answer plan past s.current.legal p b w d.kept) in
    subst (IsTurn c.put-2.new.self plan past p) (sym both) (record {
      step = pair-step plan past s.current.legal p b w d.kept;
      stands = record {
        current = second;
        answered = pair-together h past p b w d.kept s.answered;
        forwarded = λ q. whole-next (transfer ∷ past) answer q refl (whole-next past transfer q refl (s.forwarded q));
      };
    })
