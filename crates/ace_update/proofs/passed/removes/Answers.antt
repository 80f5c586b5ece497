use Rattle.std.proofs.Common.{ap, ◌∙◌}
use Rattle.ace_portck.specs.Targets.{line_of}
use Rattle.ace_update.proofs.passed.removes.Goals as goal

pub returns-in-M : goal.returns-in-M
returns-in-M c = λ h past s. rw c.in-M.is (c.line_of.ensures ∙ ap line_of (c.outstanding.ensures (record { header = h; past = past }) s))

pub returns-in-Rk : goal.returns-in-Rk
returns-in-Rk c = λ h past s. rw c.in-Rk.is (c.line_of-in-Rk.ensures ∙ ap line_of (c.acknowledged.ensures (record { header = h; past = past }) s))
