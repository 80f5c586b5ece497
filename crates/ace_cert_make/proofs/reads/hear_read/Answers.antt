use Rattle.std.proofs.Common.{ap, ◌∙◌}
use Rattle.std.specs.BTreeMap.{get}
use Rattle.std.specs.Ordering.{nat_cmp}
use Rattle.ace_cert_make.specs.Places.{placed_by, placed_or}
use Rattle.ace_cert_make.proofs.Heard.{on_ok}
use Rattle.ace_cert_make.proofs.reads.hear_read.Goals as goal

pub returns : goal.returns
returns c = λ h past t s p n number.
    let a = c.args in
    on_ok c.keep.result
    (λ kept k. kept k ∙ ap (λ o. placed_or o k (get nat_cmp a.reads.now k)) (c.placed_by.ensures h past t s n number)
    ∙ ap (placed_or (placed_by past a.event.now) k) (p k)) c.keep.ensures
