use Rattle.std.proofs.Common.{arith}
use Rattle.ace_origins.proofs.Least.{least_found, least_none}
use Rattle.ace_origins.proofs.search.any_line.Goals as goal

pub returns-clause-found : goal.returns-clause-found
returns-clause-found c r lines since journal some =
    least_found r.header r.past c.args.journal.now c.args.word c.loop-place.place lines.accepted journal some
    (omega (arith, c.loop-place-test.false, c.lines-place-end.ensures)) c.loop-place.least (c.loop-place.invariant.least r lines since)

pub returns-clause-none : goal.returns-clause-none
returns-clause-none c r lines since journal some =
    least_none r.header r.past c.args.journal.now c.args.word c.loop-place.place lines.accepted journal some
    (omega (arith, c.loop-place-test.false, c.lines-place-end.ensures)) c.loop-place.least (c.loop-place.invariant.least r lines since)
