use Rattle.std.proofs.Common.{refl, inl, inr, rules}
use Rattle.ace_side.specs.declared.kind.LineKind.TheVariants as kind
use Rattle.ace_side.proofs.TextLines.{IsNumber, notes_end, another_form, too_few}
use Rattle.ace_side.proofs.parse.note_line.Goals as goal
use Rattle.ace_side.proofs.parse.note_line.Goals.{in_default-via-in-Some+in_default, in_default-via-in_default}

pub returns-in_default : goal.returns-in_default
returns-in_default c =
    another_form kind.Note IsNumber _ _ c.in-Some.field.now c.in-Some.text.now (λ n. refl) notes_end c.in-Some.ensures.fields
    (elim c.in_default.branch [
      | in_default-via-in-Some+in_default w ↦ inr w.in_default.ensures'
      | in_default-via-in_default w ↦ inl (λ p. search rules)
    ])

pub returns-in-None : goal.returns-in-None
returns-in-None c = too_few kind.Note IsNumber _ _ (λ n. refl) notes_end c.in-None.ensures.fields
