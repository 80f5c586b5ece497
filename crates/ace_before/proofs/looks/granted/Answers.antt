use Rattle.std.proofs.Common.{sym, ◌∙◌}
use Rattle.ace_before.proofs.Granted.{granted_progress}
use Rattle.ace_before.proofs.looks.granted.Goals as goal

pub returns-in-Some : goal.returns-in-Some
returns-in-Some c r line p l place =
    granted_progress r.header r.past line c.in-Some.x c.copied.result p.accepted (sym (c.granted_transaction.ensures r line l place) ∙ c.in-Some.is)
    (c.copied.ensures ∙ c.outstanding.ensures r p)
