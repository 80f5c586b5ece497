use Rattle.ace_verdict.proofs.Following.{fed_fine, fed_stands, fed_stops, fed_stop}
use Rattle.ace_verdict.proofs.follow.feed.Goals as goal

pub returns-clause-fine : goal.returns-clause-fine
returns-clause-fine c lines h past s = rw c.fed_verdict.ensures (fed_fine lines h past c.args.event.now _ (c.feed.ensures.answer lines h past s))

pub returns-clause-stands : goal.returns-clause-stands
returns-clause-stands c lines h past s few = rw c.fed_verdict.ensures (fed_stands lines _ h past c.args.event.now _ (c.feed.ensures.stands lines h past s few))

pub returns-clause-stops : goal.returns-clause-stops
returns-clause-stops c lines h past s =
    rw c.fed_verdict.ensures (fed_stops lines h past c.args.event.now _ (c.feed.ensures.answer lines h past s) (c.feed.ensures.too_many lines h past s))

pub returns-clause-stop : goal.returns-clause-stop
returns-clause-stop c = rw c.fed_verdict.ensures (fed_stop _)
