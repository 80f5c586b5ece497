use Rattle.std.proofs.Common.{◌<◌, ◌++◌, [], ◌∷◌, length, take, arith, ap, sym, ◌∙◌}
use Rattle.std.proofs.lemmas.List.{length-set, take_more, take_more_set}
use Rattle.ace_journal.proofs.journal.copied.Goals as goal

pub loop-place-preserved : goal.loop-place-preserved
loop-place-preserved c =
    let items = c.args.rows.now.kept.items in
    let place = c.loop-place.place in
    let row = c.index.result.now in
    let in_copy : place < length c.loop-place.copy = omega (arith, c.loop-place-test.true, c.requires.few, c.loop-place.invariant.len) in
    let in_rows : place < length items = omega (arith, c.loop-place-test.true, c.requires.there) in
    record {
      len = length-set c.loop-place.copy place row ∙ c.loop-place.invariant.len;
      so_far = take_more_set c.loop-place.copy place row in_copy ∙ ap (λ xs. xs ++ row ∷ []) c.loop-place.invariant.so_far
          ∙ ap (λ x. take place items ++ x ∷ []) c.index.ensures ∙ sym (take_more items place row in_rows);
    }
