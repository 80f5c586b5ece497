use Rattle.std.proofs.Common.{[], subst}
use Rattle.ace_event.specs.declared.header.Header.{Header}
use Rattle.ace_portck.specs.OnePort.{OnePortStands}
use Rattle.ace_master_state.specs.Cached.{CachedStands}
use Rattle.ace_master_state.proofs.kept.Kept.new.Goals as goal

pub returns : goal.returns
returns c =
    let plan = c.args.plan.now.plan in
    let p = c.args.port in
    record {
      legal = record { right = c.requires.right; accepted = tt; follows = tt; lean = tt };
      ace = c.requires.ace;
      port = subst (λ (h : Header). OnePortStands c.in-Ok.of_port h [] p) c.header.ensures c.in-Ok.ensures.stands;
      room = c.in-Ok.ensures.room;
      identifiers = c.none.ensures plan.header p;
      lines = subst (λ n. CachedStands plan.header n [] p c.in_ok-lines.lines) c.ways.ensures (c.in_ok-lines.ensures plan.header p);
      monitor = c.new-4.ensures plan.header;
      segment = c.in_ok-segment.ensures;
      completions = c.new-5.ensures;
      syncs = c.new-6.ensures;
    }
