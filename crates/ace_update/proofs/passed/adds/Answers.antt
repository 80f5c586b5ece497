use Rattle.std.proofs.Common.{◌≡◌, true, sym, ap, ◌∙◌}
use Rattle.ace_codes.specs.Responses.{passes_dirty}
use Rattle.ace_portck.specs.Targets.{line_of_snoop}
use Rattle.ace_update.proofs.passed.adds.Goals as goal

pub returns-in-Cr : goal.returns-in-Cr
returns-in-Cr c = λ h past s.
    let dirty : passes_dirty c.in-Cr.resp ≡ true = sym c.passes_dirty.ensures ∙ c.if-passes_dirty.true in
    rw (c.in-Cr.is, dirty) (c.line_of_snoop.ensures ∙ ap line_of_snoop (c.answered.ensures (record { header = h; past = past }) s))
