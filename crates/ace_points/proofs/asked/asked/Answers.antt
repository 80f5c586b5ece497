use Rattle.std.proofs.Common.{sym, ap, ◌∙◌}
use Rattle.ace_points.specs.Asked.{asked}
use Rattle.ace_points.proofs.asked.asked.Goals as goal

pub returns-in-W : goal.returns-in-W
returns-in-W c = λ r p l s. c.asked_at_write.ensures r c.in-W.strb c.in-W.last c.in-W.word p l ∙ sym (ap (asked r.header r.past) c.in-W.is)

pub returns-in-Cr : goal.returns-in-Cr
returns-in-Cr c = λ r p l s. c.asked_at_answer.ensures r c.in-Cr.resp c.in-Cr.st p l ∙ sym (ap (asked r.header r.past) c.in-Cr.is)

pub returns-in-Cd : goal.returns-in-Cd
returns-in-Cd c = λ r p l s. c.asked_at_data.ensures r c.in-Cd.last c.in-Cd.word p ∙ sym (ap (asked r.header r.past) c.in-Cd.is)

pub returns-in-R : goal.returns-in-R
returns-in-R c = λ r p l s. c.asked_at_transfer.ensures r c.in-R.resp c.in-R.last c.in-R.word p l s ∙ sym (ap (asked r.header r.past) c.in-R.is)

pub returns-in-Rk : goal.returns-in-Rk
returns-in-Rk c = λ r p l s. c.asked_at_rack.ensures r c.in-Rk.st p ∙ sym (ap (asked r.header r.past) c.in-Rk.is)

pub returns-in-Wk : goal.returns-in-Wk
returns-in-Wk c = λ r p l s. c.asked_at_wack.ensures r c.in-Wk.st p ∙ sym (ap (asked r.header r.past) c.in-Wk.is)
