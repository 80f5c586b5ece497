use Rattle.std.proofs.Common.{◌≡◌, ◌≢◌, true, false, refl, ◌∙◌}
use Rattle.std.proofs.lemmas.Slice.Eq.{bytes_eq-Decides}
use Rattle.ace_side.specs.Text.{first_text}
use Rattle.ace_side.proofs.BadLines.{no_line_is_bad, other_line_is_bad}
use Rattle.ace_side.proofs.lines.read_first.Goals as goal
use Rattle.ace_side.proofs.lines.read_first.Goals.{else-whole-via-then-whole+else-eq, else-whole-via-else-whole}

pub returns-else-whole-clause-none : goal.returns-else-whole-clause-none
returns-else-whole-clause-none g c = (
  refl,
  refl,
  elim c.else-whole.branch [
    | else-whole-via-then-whole+else-eq w ↦
        let other : c.take_line.new.line ≢ first_text = λ same.
        let is : w.bytes.result.now ≡ first_text = w.bytes.ensures.value ∙ same in
        absurd (let clash : false ≡ true = w.if-eq.ensures ∙ (bytes_eq-Decides w.bytes.result.now first_text).1 is in cc) in
        other_line_is_bad _ _ c.take_line.new.line c.in-Ok.ensures.no_lf other (c.in-Ok.ensures.taken w.if-whole.true).1
    | else-whole-via-else-whole w ↦ no_line_is_bad _ (c.in-Ok.ensures.none w.if-whole.false)
  ],
  c.in-Ok.ensures.front,
  c.in-Ok.ensures.steady,
)
