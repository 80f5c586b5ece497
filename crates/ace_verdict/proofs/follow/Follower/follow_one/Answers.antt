use Rattle.ace_verdict.proofs.Following.{none_taken, one_taken}
use Rattle.ace_verdict.proofs.follow.Follower.follow_one.Goals as goal

pub returns-in-Ok-clause-taken : goal.returns-in-Ok-clause-taken
returns-in-Ok-clause-taken c =
    let fed = c.feed.ensures in
    let heard = c.hear.ensures.heard in
    one_taken _ _ _ _ _ (rw c.in-Ok.is at heard) c.hear.ensures.same_account fed.fine fed.stands fed.stops fed.stop

pub returns-in-Err-clause-taken : goal.returns-in-Err-clause-taken
returns-in-Err-clause-taken c = none_taken _ _ _ _ c.hear.ensures.same_account
