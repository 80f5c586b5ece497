use Rattle.std.proofs.Common.{sym, ◌∙◌}
use Rattle.ace_fabric.proofs.WhatIsLeft.{counted-at, counted-none}
use Rattle.ace_fabric.proofs.left.note.Goals as goal

pub returns-in-Some : goal.returns-in-Some
returns-in-Some c = λ plan past stand legal.
    counted-at plan past c.args.event.now c.in-Some.port c.args.counts.now c.count_at.new.counts (sym c.counted_port.ensures ∙ c.in-Some.is) legal c.count_at.auto.counts c.count_at.ensures.own c.count_at.ensures.others stand

pub returns-in_default : goal.returns-in_default
returns-in_default c = λ plan past stand legal. counted-none plan past c.args.event.now c.args.counts.now (sym c.counted_port.ensures ∙ c.in_default.is) stand
