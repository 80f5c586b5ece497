use Rattle.ace_verdict.proofs.Followed.{followed_accepted, followed_outstanding}
use Rattle.ace_verdict.proofs.check.ended_within.Goals as goal

pub returns-in-Ok-clause-verdict : goal.returns-in-Ok-clause-verdict
returns-in-Ok-clause-verdict g c = followed_accepted c.args.limits _ c.in-Ok.follower _ c.in-Ok.ensures.accepted c.count.ensures

pub returns-in-Ok-clause-outstanding : goal.returns-in-Ok-clause-outstanding
returns-in-Ok-clause-outstanding g c =
    followed_outstanding c.args.limits _ c.in-Ok.follower c.count.result _ c.in-Ok.ensures.accepted c.outstanding_of.ensures
