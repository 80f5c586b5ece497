use Rattle.std.proofs.Common.{sym, subst}
use Rattle.ace_portck.specs.declared.one_port.OnePort.{OnePort}
use Rattle.ace_portck.specs.OnePort.{IsRoomy, MayHear}
use Rattle.ace_master_state.proofs.KeptHears.{may-hear}
use Rattle.ace_master_state.proofs.kept.Kept.hear.Goals as goal

pub returns : goal.returns
returns c = λ plan past p k legal low.
    let e = c.args.event.now in
    let h = plan.header in
    let rest = c.note.ensures.rest plan past p k legal low in
    let same = sym c.note.ensures.port in
    record {
      legal = legal;
      ace = k.ace;
      port = c.hear.ensures.stands h past p (subst (λ (v : OnePort). MayHear v h past p e) same (may-hear plan past e p c.args.self.now k legal));
      room = c.hear.ensures.room 24576 (subst (λ (v : OnePort). IsRoomy 24576 v) same k.room);
      identifiers = rest.identifiers;
      lines = rest.lines;
      monitor = rest.monitor;
      segment = rest.segment;
      completions = rest.completions;
      syncs = rest.syncs;
    }
