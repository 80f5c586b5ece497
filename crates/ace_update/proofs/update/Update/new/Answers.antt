use Rattle.std.proofs.Common.{[], subst, sym}
use Rattle.ace_event.specs.declared.header.Header.{Header}
use Rattle.ace_event.specs.Ports.{IsHeader}
use Rattle.ace_portck.specs.Stands.{Stands}
use Rattle.ace_update.proofs.update.Update.new.Goals as goal

pub returns : goal.returns
returns c =
    let right = c.requires in
    let plan = c.args.plan.now.plan in
    record {
      legal = record { right = right; accepted = tt; follows = tt; lean = tt };
      ports = subst (λ (h : Header). Stands c.in-Ok.ports (record { header = h; past = [] })) c.header.ensures
          (c.in-Ok.ensures.stands (subst IsHeader (sym c.header.ensures) right.header));
      room = c.in-Ok.ensures.room;
      passed = c.in_ok-passed.ensures plan.header;
    }
