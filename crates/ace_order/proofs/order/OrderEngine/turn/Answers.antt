use Rattle.ace_order.proofs.order.OrderEngine.turn.Goals as goal

pub returns-in-Some-clause-stands : goal.returns-in-Some-clause-stands
returns-in-Some-clause-stands c = λ _ plan past s.
    (c.answer.ensures plan past c.args.port s (c.answerable.ensures.some c.in-Some.pair c.in-Some.is plan past s)).stands

pub returns-in-Some-forwardable-clause-stands : goal.returns-in-Some-forwardable-clause-stands
returns-in-Some-forwardable-clause-stands c = λ _ plan past s.
    (c.forward.ensures plan past c.args.port s (c.forwardable.ensures.some c.in-Some-forwardable.message c.in-Some-forwardable.is plan past s)).stands

pub returns-in-Some-respondable-clause-stands : goal.returns-in-Some-respondable-clause-stands
returns-in-Some-respondable-clause-stands c = λ _ plan past s.
    (c.respond.ensures plan past c.args.port s (c.respondable.ensures.some c.in-Some-respondable.read c.in-Some-respondable.is plan past s)).stands
