use Rattle.std.proofs.Common.{ap, sym, subst, ◌∙◌, slice_index_or}
use Rattle.ace_sysck.proofs.Terms.{TellsOpenPair, open_of, Idle}
use Rattle.ace_sysck.proofs.BarrierAnswers.{tells_open}
use Rattle.ace_sysck.proofs.barriers.Barriers.open_pair.Goals as goal

pub returns : goal.returns
returns c = λ r s.
    let p = c.args.port in
    subst (TellsOpenPair r.past p) (sym (c.open_of.ensures ∙ ap open_of c.barrier_of.ensures)) (tells_open r.past p (slice_index_or c.args.self.now.ports.items p Idle) (s.ports p))
