use Rattle.std.proofs.Common.{sym, subst, ◌∙◌}
use Rattle.ace_verdict.specs.Follow.{HasTaken, ended_by}
use Rattle.ace_verdict.proofs.Following.{none_is}
use Rattle.ace_verdict.proofs.follow.FollowerTaker.takes.Goals as goal

pub returns-in-Some-clause-took : goal.returns-in-Some-clause-took
returns-in-Some-clause-took c is =
    let taken = c.follow_one.ensures.taken in (
      none_is _ (sym c.is_some.ensures ∙ c.if-is_some.false),
      rw c.in-Some.is at taken,
    )

pub returns-in_default-clause-took : goal.returns-in_default-clause-took
returns-in_default-clause-took c is =
    let taken = c.follow_one.ensures.taken in
    let none = none_is c.args.self.now.stop (sym c.is_some.ensures ∙ c.if-is_some.false) in (
      none,
      subst (λ o. HasTaken c.args.self.now c.args.event.now (ended_by c.follow_one.new.self o)) (sym (c.follow_one.ensures.same_stop ∙ none)) (rw c.in_default.is at taken),
    )
