use Rattle.std.proofs.Common.{◌∷◌, sym, ap, subst, ◌∙◌}
use Rattle.ace_event.specs.declared.event.Event.{Event}
use Rattle.ace_runs.specs.Segments.{is_at_port}
use Rattle.ace_master_state.specs.Identifiers.{IdentifiersStand}
use Rattle.ace_master_state.proofs.IdentifierMoves.{ends-none, read-acknowledged, write-acknowledged}
use Rattle.ace_master_state.proofs.identifiers.Identifiers.hear.Goals as goal

pub returns-in-Rk : goal.returns-in-Rk
returns-in-Rk c = λ h past p port ace at s.
    let w = c.in-Rk in
    subst (λ (e : Event). IdentifiersStand h (e ∷ past) p (record c.args.self.now { reads = c.free.new.set })) (sym w.is)
    (read-acknowledged h past p c.args.self.now s c.free.new.set w.port w.st c.acknowledged.result (ap (is_at_port p) (sym w.is) ∙ at) (c.acknowledged.ensures h past p port ace) c.free.ensures)

pub returns-in-Wk : goal.returns-in-Wk
returns-in-Wk c = λ h past p port ace at s.
    let w = c.in-Wk in
    subst (λ (e : Event). IdentifiersStand h (e ∷ past) p (record c.args.self.now { writes = c.free-in-Wk.new.set })) (sym w.is)
    (write-acknowledged h past p c.args.self.now s c.free-in-Wk.new.set w.port w.st c.acknowledged-in-Wk.result (ap (is_at_port p) (sym w.is) ∙ at) (c.acknowledged-in-Wk.ensures h past p port ace) c.free-in-Wk.ensures)

pub returns-in_default : goal.returns-in_default
returns-in_default c = λ h past p port ace at s.
    c.begin.ensures h past p at (ends-none h past p c.args.event.now at ace c.in_default.not-Rk c.in_default.not-Wk) s
