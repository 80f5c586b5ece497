use Rattle.std.proofs.Common.{sym, ap, ◌∙◌}
use Rattle.ace_points.specs.Situations.{met}
use Rattle.ace_points.proofs.met.met.Goals as goal

pub returns-in-R : goal.returns-in-R
returns-in-R c = λ r p l s. c.met_at_transfer.ensures r c.in-R.resp c.in-R.last c.in-R.word p l ∙ sym (ap (met r.header r.past) c.in-R.is)

pub returns-in-W : goal.returns-in-W
returns-in-W c = λ r p l s. c.met_at_write.ensures r c.in-W.last c.in-W.word p ∙ sym (ap (met r.header r.past) c.in-W.is)

pub returns-in-L : goal.returns-in-L
returns-in-L c = λ r p l s. c.met_at_load.ensures r c.in-L.w c.in-L.x c.in-L.word l ∙ sym (ap (met r.header r.past) c.in-L.is)

pub returns-in-D : goal.returns-in-D
returns-in-D c = λ r p l s. c.met_at_store.ensures r c.in-D.strobe c.in-D.x c.in-D.line p ∙ sym (ap (met r.header r.past) c.in-D.is)
