use Rattle.std.proofs.Common.{◌≡◌, slice_set, ap, ◌∙◌, arith}
use Rattle.ace_event.specs.declared.line.Line.{Line}
use Rattle.ace_master_state.proofs.arriving.Arriving.put_word.Goals as goal

pub returns-clause-word : goal.returns-clause-word
returns-clause-word c = λ low few.
    let beat = c.from-number.ensures in
    let at : c.from-number.result ≡ c.args.number = omega (arith, beat, few) in
    c.put.ensures.line low
    ∙ ap (λ n. slice_set c.args.self.now c.args.id (record { words = slice_set c.get-line.result.words n c.args.word })) at
    ∙ ap (λ (v : Line). slice_set c.args.self.now c.args.id (record { words = slice_set v.words c.args.number c.args.word })) c.get-line.ensures
