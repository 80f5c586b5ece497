use Rattle.std.proofs.Common.{subst}
use Rattle.std.proofs.lemmas.Bool.{eq-eqb, ne_eqb}
use Rattle.ace_sysck.specs.Barriers.{BarrierStands}
use Rattle.ace_explain.proofs.OrderLetters.{early_memory, early_sync_barrier, no_open}
use Rattle.ace_explain.proofs.order_clauses.clause_of_half.Goals as goal

pub returns-then-pair-eq3 : goal.returns-then-pair-eq3
returns-then-pair-eq3 c = λ r e y out half.
    early_sync_barrier r e c.args.half.now out half c.in-Open.pair (subst (BarrierStands r.past c.args.half.now.port) c.in-Open.is (c.barrier.ensures r y))
    (eq-eqb _ _ c.if-pair-eq3.true)

pub returns-else-pair-eq3 : goal.returns-else-pair-eq3
returns-else-pair-eq3 c = λ r e y out half.
    early_memory r e c.args.half.now out half c.in-Open.pair (subst (BarrierStands r.past c.args.half.now.port) c.in-Open.is (c.barrier.ensures r y))
    (ne_eqb _ _ c.if-pair-eq3.false)

pub returns-in_default : goal.returns-in_default
returns-in_default c = λ r e y out half. no_open r e c.args.half.now out half c.barrier.result (c.barrier.ensures r y) c.in_default.not-Open
