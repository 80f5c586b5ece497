use Rattle.std.proofs.Common.{sym, ◌∙◌}
use Rattle.ace_check.proofs.Terms.{Recording}
use Rattle.ace_check.proofs.Steps.{unlocked_stands}
use Rattle.ace_check.proofs.shares.Shares.has_failed_exclusively.Goals as goal

pub returns-then-is_granted_exclusively : goal.returns-then-is_granted_exclusively
returns-then-is_granted_exclusively c = λ h past l s q. c.has_failed_at.ensures h past l s q

pub returns-else-is_granted_exclusively : goal.returns-else-is_granted_exclusively
returns-else-is_granted_exclusively c = λ h past l s q.
    let r : Recording = record { header = h; past = past } in
    c.if-is_granted_exclusively.false ∙ unlocked_stands h past l (sym (c.is_granted_exclusively.ensures r l s.lines q) ∙ c.if-is_granted_exclusively.false)
