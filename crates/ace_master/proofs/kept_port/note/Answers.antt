use Rattle.std.proofs.Common.{◌≡◌, ◌∷◌, sym, ap, subst, ◌∙◌}
use Rattle.ace_model.specs.Transactions.{is_ace}
use Rattle.ace_runs.specs.Segments.{is_at_port}
use Rattle.ace_portck.specs.OnePort.{OnePortStands, port_of}
use Rattle.ace_master_state.proofs.IdentifierMoves.{stands-elsewhere}
use Rattle.ace_master.proofs.KeptPorts.{may-hear}
use Rattle.ace_master.proofs.kept_port.note.Goals.{then-is_at, else-is_at}
use Rattle.ace_master.proofs.kept_port.note.Goals as goal

pub returns-clause-kept : goal.returns-clause-kept
returns-clause-kept c = λ plan past k legal.
    let e = c.args.event.now in
    let same = c.hear.ensures.port in
    record {
      legal = legal;
      kept = subst (OnePortStands c.hear.new.self plan.header (e ∷ past)) (sym same) (c.hear.ensures.stands plan.header past _ (may-hear plan past e c.args.port.now k legal));
      room = λ ace. c.hear.ensures.room 24576 (k.room (ap (is_ace plan.header) (sym same) ∙ ace));
    }

pub returns-clause-identifiers : goal.returns-clause-identifiers
returns-clause-identifiers c = λ plan past legal lite s.
    let e = c.args.event.now in
    let p = port_of c.args.port.now in
    let same : c.is_at.result ≡ is_at_port p e = c.is_at.ensures ∙ ap (λ q. is_at_port q e) c.port.ensures in
    elim c.if-is_at.branch [
      | then-is_at w ↦ rw w.identifiers-is (w.hear_lite.ensures plan.header past p legal.accepted lite (sym same ∙ w.if-is_at.true) s)
      | else-is_at w ↦ rw w.identifiers-is (stands-elsewhere plan.header past p e (sym same ∙ w.if-is_at.false) c.args.identifiers.now s)
    ]
