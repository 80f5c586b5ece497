use Rattle.std.proofs.Common.{◌≡◌, Some, slice_get, sym, ap, ◌∙◌, arith}
use Rattle.ace_filter.proofs.Terms.{LineTurn}
use Rattle.ace_filter.proofs.Turns.{ends-first, ends-none}
use Rattle.ace_model.proofs.General.Options.{Some-injective}
use Rattle.ace_filter.proofs.queue.LineQueue.end.Goals as goal

pub returns-in-Some-clause-line : goal.returns-in-Some-clause-line
returns-in-Some-clause-line c = λ all done s low.
    (ends-first all done low c.args.self.now.lines.items c.in-Some.turn s.lines (sym c.oldest.ensures ∙ c.in-Some.is) (c.if-turn-number.true ∙ s.ended)).is

pub returns-in-Some-clause-stands : goal.returns-in-Some-clause-stands
returns-in-Some-clause-stands c = λ all done s low few.
    let e = ends-first all done low c.args.self.now.lines.items c.in-Some.turn s.lines (sym c.oldest.ensures ∙ c.in-Some.is)
    (c.if-turn-number.true ∙ s.ended) in
    let ended = s.ended in
    record { lines = c.pop_front-first.ensures.rest ∙ e.rest; begun = s.begun; ended = omega (arith, ended, low, few); within = omega (arith, low) }

pub returns-in_default-clause-line : goal.returns-in_default-clause-line
returns-in_default-clause-line c = λ all done s low.
    let q = c.args.self.now in
    let t = c.in-Some.turn in
    let first : slice_get q.lines.items 0 ≡ Some t = sym c.oldest.ensures ∙ c.in-Some.is in
    (ends-none all done low q.lines.items s.lines
    (λ u is number. c.if-turn-number.false (ap (λ (v : LineTurn). v.number) (Some-injective t u (sym first ∙ is)) ∙ number ∙ sym s.ended))).is

pub returns-in_default-clause-stands : goal.returns-in_default-clause-stands
returns-in_default-clause-stands c = λ all done s low few.
    let q = c.args.self.now in
    let t = c.in-Some.turn in
    let first : slice_get q.lines.items 0 ≡ Some t = sym c.oldest.ensures ∙ c.in-Some.is in
    let e = ends-none all done low q.lines.items s.lines
    (λ u is number. c.if-turn-number.false (ap (λ (v : LineTurn). v.number) (Some-injective t u (sym first ∙ is)) ∙ number ∙ sym s.ended)) in
    let ended = s.ended in
    record { lines = e.rest; begun = s.begun; ended = omega (arith, ended, low, few); within = omega (arith, low) }

pub returns-in_default-2-clause-line : goal.returns-in_default-2-clause-line
returns-in_default-2-clause-line c = λ all done s low.
    (ends-none all done low c.args.self.now.lines.items s.lines (λ u is number. let none = sym c.oldest.ensures ∙ c.in_default.is in cc)).is

pub returns-in_default-2-clause-stands : goal.returns-in_default-2-clause-stands
returns-in_default-2-clause-stands c = λ all done s low few.
    let e = ends-none all done low c.args.self.now.lines.items s.lines (λ u is number. let none = sym c.oldest.ensures ∙ c.in_default.is in cc) in
    let ended = s.ended in
    record { lines = e.rest; begun = s.begun; ended = omega (arith, ended, low, few); within = omega (arith, low) }
