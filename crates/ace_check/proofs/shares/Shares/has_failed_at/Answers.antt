use Rattle.std.proofs.Common.{sym, ◌∙◌}
use Rattle.ace_check.proofs.Steps.{granted_named, failed_none}
use Rattle.ace_check.proofs.shares.Shares.has_failed_at.Goals as goal

pub returns-in-None : goal.returns-in-None
returns-in-None c = λ h past l s q. failed_none h past l (sym (c.granted.ensures (record { header = h; past = past }) l s.lines q) ∙ c.in-None.is)

pub returns-in-Some : goal.returns-in-Some
returns-in-Some c = λ h past l s q.
    let n = granted_named h past l _ _ _ s.ports.accepted (sym (c.granted.ensures (record { header = h; past = past }) l s.lines q) ∙ c.in-Some.is) in
    rw n.1 (c.has_failed_as.ensures h past n.0 s n.2 n.3)
