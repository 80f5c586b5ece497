use Rattle.ace_origins.proofs.search.elsewhere.Goals as goal

pub returns-in-Some : goal.returns-in-Some
returns-in-Some c r k lines since journal not = (c.if-word-eq0.false, not, c.in-Some.ensures.found r lines since)

pub returns-in-None : goal.returns-in-None
returns-in-None c r k lines since journal not = (c.if-word-eq0.false, c.in-None.ensures.none r lines since journal c.if-word-eq0.false)

pub returns-in-Some-any_line : goal.returns-in-Some-any_line
returns-in-Some-any_line c r k lines since journal not =
    let there = c.in-Some-any_line.ensures.found r lines since journal c.if-word-eq0.false in
    (c.if-word-eq0.false, c.in_default.ensures.none r lines, there.0, there.1)
