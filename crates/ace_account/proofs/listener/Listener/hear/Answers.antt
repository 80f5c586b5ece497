use Rattle.std.proofs.Common.{◌∙◌, arith}
use Rattle.ace_account.proofs.listener.Listener.hear.Goals as goal

pub returns-in-Report-clause-stands : goal.returns-in-Report-clause-stands
returns-in-Report-clause-stands c = λ h past t line memory s accepted few.
    let wanted = rw c.in-Report.is at line in
    c.hear.ensures.stands h past t wanted (rw c.in-Report.is at s) (record {
      accepted = accepted;
      memory = λ l is. memory l (wanted ∙ is);
      few = omega (arith, few);
    })

pub returns-in-Order-clause-stands : goal.returns-in-Order-clause-stands
returns-in-Order-clause-stands c = λ h past t line memory s accepted few. c.hear_order.ensures h past t (rw c.in-Order.is at s) accepted few
