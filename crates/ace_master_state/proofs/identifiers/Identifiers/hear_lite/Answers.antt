use Rattle.std.proofs.Common.{◌≡◌, ◌∷◌, true, sym, ap, subst, ◌∙◌}
use Rattle.ace_event.specs.declared.event.Event.{Event}
use Rattle.ace_event.specs.declared.event.Event.TheVariants.{R}
use Rattle.ace_runs.specs.Segments.{is_at_port}
use Rattle.ace_master_state.specs.Identifiers.{IdentifiersStand}
use Rattle.ace_master_state.proofs.IdentifierMoves.{ends-none-lite, not-last, read-answered, write-answered}
use Rattle.ace_master_state.proofs.identifiers.Identifiers.hear_lite.Goals.{in_default-via-in-R+else-last, in_default-via-in_default}
use Rattle.ace_master_state.proofs.identifiers.Identifiers.hear_lite.Goals as goal

pub returns-in-R : goal.returns-in-R
returns-in-R c = λ h past p a lite at s.
    let w = c.in-R in
    let is : c.args.event.now ≡ R w.port w.id w.resp true w.word = w.is ∙ ap (λ b. R w.port w.id w.resp b w.word) c.if-last.true in
    subst (λ (e : Event). IdentifiersStand h (e ∷ past) p (record c.args.self.now { reads = c.remove.new.self })) (sym is)
    (read-answered h past p c.args.self.now s c.remove.new.self w.port w.id w.resp w.word lite (ap (is_at_port p) (sym is) ∙ at) c.remove.ensures)

pub returns-in-B : goal.returns-in-B
returns-in-B c = λ h past p a lite at s.
    let w = c.in-B in
    subst (λ (e : Event). IdentifiersStand h (e ∷ past) p (record c.args.self.now { writes = c.remove-in-B.new.self })) (sym w.is)
    (write-answered h past p c.args.self.now s c.remove-in-B.new.self w.port w.id w.resp lite (ap (is_at_port p) (sym w.is) ∙ at) c.remove-in-B.ensures)

pub returns-in_default : goal.returns-in_default
returns-in_default c = λ h past p a lite at s.
    c.begin.ensures h past p at
    (elim c.in_default.branch [
      | in_default-via-in-R+else-last w ↦ not-last h past p c.args.event.now w.in-R.port w.in-R.id w.in-R.resp w.in-R.last w.in-R.word w.in-R.is w.if-last.false
      | in_default-via-in_default w ↦ ends-none-lite h past p c.args.event.now a at lite w.in_default.not-R w.in_default.not-B
    ]) s
