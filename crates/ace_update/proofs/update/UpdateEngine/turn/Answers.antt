use Rattle.ace_update.proofs.update.UpdateEngine.turn.Goals as goal

pub returns-then-updates_memory-clause-stands : goal.returns-then-updates_memory-clause-stands
returns-then-updates_memory-clause-stands c = λ _ plan past s.
    (c.write_memory.ensures plan past c.args.port s (c.due.ensures.some c.in-Some.write c.in-Some.is plan past s)).stands

pub returns-else-updates_memory-clause-stands : goal.returns-else-updates_memory-clause-stands
returns-else-updates_memory-clause-stands c = λ _ plan past s.
    (c.respond.ensures plan past c.args.port s (c.due.ensures.some c.in-Some.write c.in-Some.is plan past s)).stands
