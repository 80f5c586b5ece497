use Rattle.std.proofs.Common.{refl, ◌∙◌}
use Rattle.ace_chart_rows.proofs.values.told_in.Goals as goal

pub returns-in-M : goal.returns-in-M
returns-in-M c most h past b s =
    rw c.in-M.is (c.told_by_memory.ensures ∙ rw (c.next_serves.ensures most h past b s, c.in-M.is) refl)

pub returns-in-R : goal.returns-in-R
returns-in-R c most h past b s =
    rw c.in-R.is
    (c.told_by_read.ensures
    ∙ rw (c.next_serves-in-R.ensures most h past b s, c.next_transfers-transfers.ensures most h past b s, c.memory_now-memory.ensures most h past b s, c.in-R.is) refl)

pub returns-in-W : goal.returns-in-W
returns-in-W c most h past b s =
    rw c.in-W.is
    (c.told_by_write.ensures ∙ rw (c.next_serves-in-W.ensures most h past b s, c.next_transfers-transfers-in-W.ensures most h past b s, c.in-W.is) refl)

pub returns-in-Cd : goal.returns-in-Cd
returns-in-Cd c most h past b s =
    rw c.in-Cd.is (c.told_by_transfer.ensures ∙ rw (c.next_transfers.ensures most h past b s, c.in-Cd.is) refl)
