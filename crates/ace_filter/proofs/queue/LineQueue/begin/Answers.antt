use Rattle.std.proofs.Common.{◌++◌, ◌∷◌, [], drop, sym, ap, ◌∙◌, arith, length-append}
use Rattle.ace_filter.proofs.Terms.{turn_at, turns_from}
use Rattle.ace_filter.proofs.Turns.{turns-begin}
use Rattle.ace_filter.proofs.queue.LineQueue.begin.Goals as goal

pub returns-clause-stands : goal.returns-clause-stands
returns-clause-stands c = λ all done lines s room has few.
    let long = length-append all (c.args.line ∷ []) in
    let begun = s.begun in
    let within = s.within in
    let items = c.put.ensures.items (λ some. let low = has some in omega (arith, low, room)) in
    record {
      lines = items ∙ ap (λ v. v ++ turn_at c.args.self.now.begun c.args.line) s.lines
          ∙ ap (λ n. turns_from done (drop done all) ++ turn_at n c.args.line) begun ∙ sym (turns-begin all done c.args.line within);
      begun = omega (arith, begun, few, long);
      ended = s.ended;
      within = omega (arith, within, long);
    }
