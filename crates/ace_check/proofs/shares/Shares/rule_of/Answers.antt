use Rattle.std.proofs.Common.{sym, ap, ◌∙◌}
use Rattle.ace_check.proofs.Terms.{least_broken}
use Rattle.ace_check.proofs.shares.Shares.rule_of.Goals as goal

pub returns-in-L : goal.returns-in-L
returns-in-L c = λ h past s. c.rule_of_l.ensures h past c.in-L.x s ∙ ap (least_broken h past) (sym c.in-L.is)

pub returns-in-D : goal.returns-in-D
returns-in-D c = λ h past s. c.rule_of_d.ensures.least h past c.in-D.line s ∙ ap (least_broken h past) (sym c.in-D.is)

pub returns-in-Op : goal.returns-in-Op
returns-in-Op c = λ h past s. c.rule_of_op.ensures h past c.in-Op.res s ∙ ap (least_broken h past) (sym c.in-Op.is)

pub returns-in-Mem : goal.returns-in-Mem
returns-in-Mem c = λ h past s. c.rule_of_mem.ensures h past c.in-Mem.line s ∙ ap (least_broken h past) (sym c.in-Mem.is)

pub returns-in-Rk : goal.returns-in-Rk
returns-in-Rk c = λ h past s. c.err.ensures.value ∙ c.judged_rk.ensures.least (record { header = h; past = past }) s.ports s.lines s.system ∙ ap (least_broken h past) (sym c.in-Rk.is)

pub returns-in-Wk : goal.returns-in-Wk
returns-in-Wk c = λ h past s. c.err-in-Wk.ensures.value ∙ c.judged_wk.ensures.least (record { header = h; past = past }) s.ports s.lines ∙ ap (least_broken h past) (sym c.in-Wk.is)

pub returns-in-B : goal.returns-in-B
returns-in-B c = λ h past s. c.err-in-B.ensures.value ∙ c.judged_b.ensures.least (record { header = h; past = past }) s.ports s.lines s.system ∙ ap (least_broken h past) (sym c.in-B.is)

pub returns-in-M : goal.returns-in-M
returns-in-M c = λ h past s. c.err-in-M.ensures.value ∙ c.judged_m.ensures.least (record { header = h; past = past }) s.ports s.lines ∙ ap (least_broken h past) (sym c.in-M.is)

pub returns-in-G : goal.returns-in-G
returns-in-G c = λ h past s. c.err-in-G.ensures.value ∙ c.judged_g.ensures.least (record { header = h; past = past }) s.ports s.lines s.system ∙ ap (least_broken h past) (sym c.in-G.is)
