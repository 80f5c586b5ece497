use Rattle.std.proofs.Common.{◌≡◌, ℕ, length, subst, arith}
use Rattle.std.proofs.lemmas.List.{drop_more, drop_all}
use Rattle.ace_c.specs.Sessions.{HasFed}
use Rattle.ace_c.proofs.Feeding.{goes_on, stops, comes_to_the_end}
use Rattle.ace_c.proofs.session.Session.feed_many.Goals as goal

pub returns-then-feed-ne0-clause-fed : goal.returns-then-feed-ne0-clause-fed
returns-then-feed-ne0-clause-fed c = λ most h past s.
    stops c.loop-n.self c.feed.new.self most h past c.args.given.now c.loop-n.n _ (drop_more c.args.given.now c.loop-n.n _ (omega (arith, c.loop-n-test.true, c.loop-n.auto.n-end)))
    (λ now hears. let ends = c.feed.ensures.ends most h now hears c.if-feed-ne0.true in (ends.0, ends.1, ends.2))
    (c.loop-n.invariant most h past s)

pub loop-n-preserved : goal.loop-n-preserved
loop-n-preserved c = λ most h past s.
    goes_on c.loop-n.self c.feed.new.self most h past c.args.given.now c.loop-n.n _ (drop_more c.args.given.now c.loop-n.n _ (omega (arith, c.loop-n-test.true, c.loop-n.auto.n-end)))
    (λ now hears. c.feed.ensures.fine most h now hears c.if-feed-ne0.false)
    (c.loop-n.invariant most h past s)

pub returns-clause-fed : goal.returns-clause-fed
returns-clause-fed c = λ most h past s.
    let all : c.loop-n.n ≡ length c.args.given.now = omega (arith, c.loop-n-test.false, c.loop-n.auto.n-end) in
    subst (λ (k : ℕ). HasFed c.loop-n.self most h past c.args.given.now k) all
    (comes_to_the_end c.loop-n.self most h past c.args.given.now c.loop-n.n (drop_all c.loop-n.n c.args.given.now (omega (arith, all))) (c.loop-n.invariant most h past s))
