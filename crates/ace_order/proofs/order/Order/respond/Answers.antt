use Rattle.std.proofs.Common.{◌≡◌, ◌<◌, ◌∷◌, ◌++◌, [], List, length, sym, ap, subst, ◌∙◌, arith, refl}
use Rattle.ace_event.specs.declared.event.Channel.TheVariants.{Read}
use Rattle.ace_event.specs.declared.event.Event.{Event}
use Rattle.ace_runs.specs.OrderSteps.{plain_transfer}
use Rattle.ace_engine.specs.Engines.{IsLegal}
use Rattle.ace_engine.proofs.Pending.{pending-at}
use Rattle.ace_order.specs.Order.{IsCurrent, IsTurn}
use Rattle.ace_order.proofs.DvmSteps.{legal-response, response-completes-none, response-step}
use Rattle.ace_order.proofs.Others.{whole-next}
use Rattle.ace_order.proofs.Together.{together-next}
use Rattle.ace_order.proofs.order.Order.respond.Goals as goal

pub returns : goal.returns
returns c = λ plan past p s d.
    let h = plan.header in
    let x = c.args.read.now in
    let w = pending-at h past p Read d.pending.0 x d.pending.1 in
    let e : c.plain_transfer.result ≡ plain_transfer x = c.plain_transfer.ensures in
    let none : length c.args.out.now < 16 = subst (λ (es : List Event). length es < 16) (sym c.requires) (omega arith) in
    let one : c.put.new.out ≡ plain_transfer x ∷ [] = c.put.ensures.burst none ∙ ap (λ (es : List Event). es ++ c.plain_transfer.result ∷ []) c.requires ∙ ap (λ (v : Event). v ∷ []) e in
    let current : IsCurrent c.put.new.self plan (plain_transfer x ∷ past) =
    subst (λ v. IsLegal plan (v ∷ past) → IsCurrent c.put.new.self plan (v ∷ past)) e (c.put.ensures.current plan past s.current) (legal-response plan past s.current.legal p x w d.begins) in
    subst (IsTurn c.put.new.self plan past p) (sym one) (record {
      step = response-step plan past s.current.legal p x w d.begins;
      stands = record {
        current = current;
        answered = together-next past (plain_transfer x) (λ q. (_, s.current.system.barriers.ports q)) s.answered (response-completes-none plan past s.current.legal p x w d.begins);
        forwarded = λ q. whole-next past (plain_transfer x) q refl (s.forwarded q);
      };
    })
