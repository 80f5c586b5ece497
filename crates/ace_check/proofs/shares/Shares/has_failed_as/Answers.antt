use Rattle.std.proofs.Common.{◌≡◌, Some, subst, ◌∙◌}
use Rattle.ace_check.proofs.Terms.{Channel, outstanding}
use Rattle.ace_check.proofs.Steps.{no_write_fails}
use Rattle.ace_check.proofs.shares.Shares.has_failed_as.Goals as goal

pub returns-in-Read : goal.returns-in-Read
returns-in-Read c = λ h past x s out chan.
    c.failed.ensures (record { header = h; past = past }) x s.system (subst (λ (d : Channel). outstanding h past c.args.port d c.args.id ≡ Some x) c.in-Read.is out)

pub returns-in-Write : goal.returns-in-Write
returns-in-Write c = λ h past x s out chan. no_write_fails past x (chan ∙ c.in-Write.is)
