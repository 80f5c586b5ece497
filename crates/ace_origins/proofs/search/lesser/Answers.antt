use Rattle.ace_origins.proofs.Least.{least_first}
use Rattle.ace_origins.proofs.search.lesser.Goals as goal

pub returns-in-None : goal.returns-in-None
returns-in-None c r lines since all n is s =
    least_first all n r.header r.past c.args.word c.args.line is c.first_word.result (c.first_word.ensures.found r lines since) c.first_word.ensures.line
    (c.first_word.ensures.none r lines) (rw c.in-None.is at s)

pub returns-in-Some : goal.returns-in-Some
returns-in-Some c r lines since all n is s = c.lesser_of.ensures r lines since all n is (rw c.in-Some.is at s)
