use Rattle.std.proofs.Common.{map, sym, ap, ◌∙◌}
use Rattle.ace_event.specs.declared.event.Channel.{Channel}
use Rattle.ace_portck.specs.Pending.{pending_of}
use Rattle.ace_portck.specs.Targets.{progress_of}
use Rattle.ace_home.proofs.Kept.{ports-stand, recording}
use Rattle.ace_home.proofs.home.Home.queue.Goals as goal

pub returns-in-Read : goal.returns-in-Read
returns-in-Read c = λ plan past s.
    c.reads.ensures (recording plan past) (ports-stand c.args.self.now plan past c.ports.result.now s c.ports.ensures)
    ∙ ap (λ (d : Channel). map (progress_of plan.header past) (pending_of plan.header past c.args.port d)) (sym c.in-Read.is)

pub returns-in-Write : goal.returns-in-Write
returns-in-Write c = λ plan past s.
    c.writes.ensures (recording plan past) (ports-stand c.args.self.now plan past c.ports-in-Write.result.now s c.ports-in-Write.ensures)
    ∙ ap (λ (d : Channel). map (progress_of plan.header past) (pending_of plan.header past c.args.port d)) (sym c.in-Write.is)
