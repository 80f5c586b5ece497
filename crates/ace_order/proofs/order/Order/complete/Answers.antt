use Rattle.std.proofs.Common.{◌≡◌, ◌<◌, ◌∷◌, ◌++◌, [], List, length, sym, ap, subst, ◌∙◌, arith, refl}
use Rattle.ace_event.specs.declared.event.Event.{Event}
use Rattle.ace_engine.specs.Engines.{IsLegal}
use Rattle.ace_order.specs.Order.{IsCurrent, IsTurn}
use Rattle.ace_order.proofs.Others.{whole-next}
use Rattle.ace_order.proofs.SyncSteps.{completion, completion-forwards-none, completion-step, legal-completion}
use Rattle.ace_order.proofs.Together.{together-next}
use Rattle.ace_order.proofs.order.Order.complete.Goals as goal

pub returns : goal.returns
returns c = λ plan past s may.
    let p = c.args.port in
    let e : c.sync_completion.result ∷ [] ≡ completion p ∷ [] = c.sync_completion.ensures in
    let f : c.sync_completion.result ≡ completion p = cc in
    let none : length c.args.out.now < 16 = subst (λ (es : List Event). length es < 16) (sym c.requires) (omega arith) in
    let one : c.put.new.out ≡ completion p ∷ [] = c.put.ensures.burst none ∙ ap (λ (es : List Event). es ++ c.sync_completion.result ∷ []) c.requires ∙ e in
    let current : IsCurrent c.put.new.self plan (completion p ∷ past) =
    subst (λ v. IsLegal plan (v ∷ past) → IsCurrent c.put.new.self plan (v ∷ past)) f (c.put.ensures.current plan past s.current) (legal-completion plan past s.current.legal p may) in
    subst (IsTurn c.put.new.self plan past p) (sym one) (record {
      step = completion-step plan past s.current.legal p may;
      stands = record {
        current = current;
        answered = together-next past (completion p) (λ q. (_, s.current.system.barriers.ports q)) s.answered (λ z i half. refl);
        forwarded = λ q. whole-next past (completion p) q (completion-forwards-none p) (s.forwarded q);
      };
    })
