use Rattle.std.proofs.Common.{sym, ap, ◌∙◌}
use Rattle.ace_model.specs.Transactions.{is_read}
use Rattle.ace_explain.proofs.MemoryLetters.{dataless_m}
use Rattle.ace_explain.proofs.memory_clauses.clause_of_written.Goals as goal

pub returns-else-sends_data : goal.returns-else-sends_data
returns-else-sends_data c = λ r p chan i line q l out made.
    dataless_m r p chan i line c.args.x.now.transaction out l.accepted (ap is_read c.in-Write.is) (sym c.sends_data.ensures ∙ c.if-sends_data.false)
