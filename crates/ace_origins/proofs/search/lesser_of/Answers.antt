use Rattle.std.proofs.Common.{arith}
use Rattle.ace_origins.proofs.Least.{least_moves, least_stays}
use Rattle.ace_origins.proofs.search.lesser_of.Goals as goal

pub returns-then-found-line : goal.returns-then-found-line
returns-then-found-line c r lines since all n is s =
    least_stays all n r.header r.past c.args.word c.args.line is c.args.found (λ low. absurd (omega (arith, low, c.if-found-line.true))) s

pub returns-in-None : goal.returns-in-None
returns-in-None c r lines since all n is s =
    least_stays all n r.header r.past c.args.word c.args.line is c.args.found (λ low. c.in-None.ensures.none r lines) s

pub returns-in-Some : goal.returns-in-Some
returns-in-Some c r lines since all n is s =
    least_moves all n r.header r.past c.args.word c.args.line is c.args.found c.in-Some.lesser c.in-Some.ensures.line (omega (arith, c.if-found-line.false))
    (c.in-Some.ensures.found r lines since) s
