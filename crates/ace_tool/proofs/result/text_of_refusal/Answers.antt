use Rattle.ace_tool.proofs.result.text_of_refusal.Goals as goal

pub returns-in-Ok : goal.returns-in-Ok
returns-in-Ok c =
    (c.none-facts.result, (c.none-facts.ensures.nothing, c.none-facts.ensures.no_fault), rw c.as_bytes.ensures.value at c.in-Ok.ensures)
