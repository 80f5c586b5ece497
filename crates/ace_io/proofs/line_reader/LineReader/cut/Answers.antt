use Rattle.std.proofs.Common.{refl, arith, ◌≢◌}
use Rattle.std.proofs.lemmas.Grind.{common_steps}
use Rattle.std.proofs.lemmas.List.Elements.{All-append}
use Rattle.ace_io.proofs.Held.{lf-step, full-step}
use Rattle.ace_io.proofs.line_reader.LineReader.cut.Goals as goal

pub returns-in-Some-clause-moved : goal.returns-in-Some-clause-moved
returns-in-Some-clause-moved g c =
    lf-step _ _ _ _ _ _ _ _ refl c.args.self.now.start_in_range
    (grind (arith, common_steps)) (grind (arith, common_steps)) c.in-Some.ensures.0 c.in-Some.ensures.2 c.append.ensures

pub returns-then-most-room-clause-moved : goal.returns-then-most-room-clause-moved
returns-then-most-room-clause-moved g c =
    full-step _ _ _ _ _ _ _ refl c.args.self.now.start_in_range (grind (arith, common_steps))
    c.requires.short (grind (arith, common_steps)) (grind (arith, common_steps)) c.append-in-None.ensures

pub returns-else-most-room-clause-no_lf : goal.returns-else-most-room-clause-no_lf
returns-else-most-room-clause-no_lf g c = rw c.append-in-None.ensures (All-append (λ b. b ≢ 10) _ _ c.requires.no_lf c.in-None.ensures)
