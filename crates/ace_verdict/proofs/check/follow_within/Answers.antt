use Rattle.std.proofs.Common.{[], subst}
use Rattle.ace_event.specs.declared.header.Header.{Header}
use Rattle.ace_grammar.specs.Reader.{header_of}
use Rattle.ace_verdict.specs.Follow.{Follows}
use Rattle.ace_verdict.proofs.ProgressLemmas.{stands_at_start}
use Rattle.ace_verdict.proofs.Sound.{followed_sound}
use Rattle.ace_verdict.proofs.check.follow_within.Goals as goal

pub returns-in-Some-clause-accepted : goal.returns-in-Some-clause-accepted
returns-in-Some-clause-accepted g c =
    let e = c.in-Ok.ensures in
    let follows : Follows c.args.limits.lines c.in-Some.follower (header_of c.in-Ok.reader) [] =
    subst (λ (h : Header). Follows c.args.limits.lines c.in-Some.follower h []) c.header.ensures c.in-Some.ensures.follows in
    c.follow.ensures.accepted c.args.limits (g.S.Source.left c.args.input.now) (rw c.in-Some.ensures.account c.requires.can, e.most, follows) (stands_at_start _ _ _ (header_of c.in-Ok.reader) e.readable e.header)

pub returns-in-Some-clause-verdict : goal.returns-in-Some-clause-verdict
returns-in-Some-clause-verdict g c =
    let e = c.in-Ok.ensures in
    let follows : Follows c.args.limits.lines c.in-Some.follower (header_of c.in-Ok.reader) [] =
    subst (λ (h : Header). Follows c.args.limits.lines c.in-Some.follower h []) c.header.ensures c.in-Some.ensures.follows in
    c.follow.ensures.verdict c.args.limits (g.S.Source.left c.args.input.now) (rw c.in-Some.ensures.account c.requires.can, e.most, follows) (stands_at_start _ _ _ (header_of c.in-Ok.reader) e.readable e.header)

pub returns-in-Some-clause-sound : goal.returns-in-Some-clause-sound
returns-in-Some-clause-sound g c = followed_sound c.args.limits _ _ (returns-in-Some-clause-accepted g c)
