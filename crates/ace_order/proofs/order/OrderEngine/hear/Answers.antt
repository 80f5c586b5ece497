use Rattle.std.proofs.Common.{refl}
use Rattle.ace_order.proofs.Others.{no-order-event, others-forward-none, whole-next}
use Rattle.ace_order.proofs.Together.{others-complete-none, together-next}
use Rattle.ace_order.proofs.order.OrderEngine.hear.Goals as goal

pub returns-clause-stands : goal.returns-clause-stands
returns-clause-stands c = λ plan past s legal others.
    let e = c.args.event.now in
    let none = no-order-event past e (others 0 refl) in
    record {
      current = c.note.ensures plan past s.current legal;
      answered = together-next past e (λ p. (_, s.current.system.barriers.ports p)) s.answered (others-complete-none past e none);
      forwarded = λ q. whole-next past e q (others-forward-none past e none) (s.forwarded q);
    }
