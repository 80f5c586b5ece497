use Rattle.std.proofs.Common.{◌∷◌, sym, ap, subst, ◌∙◌}
use Rattle.ace_event.specs.declared.event.Event.{Event}
use Rattle.ace_runs.specs.Segments.{is_at_port}
use Rattle.ace_master_state.specs.Identifiers.{IdentifiersStand}
use Rattle.ace_master_state.proofs.IdentifierMoves.{issues-none, read-begun, stands-kept, write-begun}
use Rattle.ace_master_state.proofs.identifiers.Identifiers.begin.Goals as goal

pub returns-in-Ar : goal.returns-in-Ar
returns-in-Ar c = λ h past p at none s.
    let w = c.in-Ar in
    subst (λ (e : Event). IdentifiersStand h (e ∷ past) p (record c.args.self.now { reads = c.add.new.self })) (sym w.is)
    (read-begun h past p c.args.self.now s c.add.new.self w.port w.id w.addr w.snoop w.dom w.bar w.lock (ap (is_at_port p) (sym w.is) ∙ at) c.add.ensures)

pub returns-in-Aw : goal.returns-in-Aw
returns-in-Aw c = λ h past p at none s.
    let w = c.in-Aw in
    subst (λ (e : Event). IdentifiersStand h (e ∷ past) p (record c.args.self.now { writes = c.add-in-Aw.new.self })) (sym w.is)
    (write-begun h past p c.args.self.now s c.add-in-Aw.new.self w.port w.id w.addr w.snoop w.dom w.bar (ap (is_at_port p) (sym w.is) ∙ at) c.add-in-Aw.ensures)

pub returns-in_default : goal.returns-in_default
returns-in_default c = λ h past p at none s.
    let e = c.args.event.now in
    stands-kept h past p c.args.self.now s e (issues-none h past p e c.in_default.not-Ar c.in_default.not-Aw) none
