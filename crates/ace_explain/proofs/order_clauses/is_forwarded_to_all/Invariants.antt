use Rattle.std.proofs.Common.{◌≡◌, ℕ, true, Some}
use Rattle.std.specs.List.{list_all}
use Rattle.ace_event.specs.declared.event.Channel.TheVariants.{Read}
use Rattle.ace_model.specs.Grants.{ports_below}
use Rattle.ace_model.specs.Messages.{is_message_part, is_other_ace}
use Rattle.ace_model.specs.Trace.{implies}
use Rattle.ace_model.specs.Transactions.{outstanding}
use Rattle.ace_portck.specs.Targets.{Recording}
use Rattle.ace_sysck.specs.Stands.{Stands}
use Rattle.ace_clauses.specs.OrderClauses.{was_forwarded}
use Rattle.ace_explain.proofs.order_clauses.is_forwarded_to_all.Given as goal

abbrev pub invariant-loop-port : goal.invariant-loop-port
invariant-loop-port l =
    (r : Recording) (own id : ℕ) → Stands l.system r → l.header ≡ r.header → outstanding r.header r.past own Read id ≡ Some l.part
    → is_message_part l.part ≡ true
    → l.all ≡ list_all (λ q. implies (is_other_ace r.header l.part.port q) (was_forwarded r.past l.part q)) (ports_below l.port)
