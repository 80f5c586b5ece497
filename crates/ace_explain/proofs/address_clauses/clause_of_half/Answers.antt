use Rattle.std.proofs.Common.{subst}
use Rattle.std.proofs.lemmas.Bool.{eq-eqb}
use Rattle.ace_sysck.specs.Barriers.{BarrierStands}
use Rattle.ace_explain.proofs.BarrierLetters.{after_read_half, after_write_half, write_after_read, read_after_write, after_none, after_open}
use Rattle.ace_explain.proofs.address_clauses.clause_of_half.Goals as goal

pub returns-in-ReadHalf-Read : goal.returns-in-ReadHalf-Read
returns-in-ReadHalf-Read c = λ r e s is half.
    after_read_half r e c.args.half.now is half (eq-eqb c.args.half.now.addr 0 c.if-half-ne0.false) c.in-ReadHalf-Read.field-0-0 (subst (BarrierStands r.past c.args.half.now.port) c.in-ReadHalf-Read.is-0 (c.barrier.ensures r s)) c.in-ReadHalf-Read.is-1

pub returns-in-WriteHalf-Write : goal.returns-in-WriteHalf-Write
returns-in-WriteHalf-Write c = λ r e s is half.
    after_write_half r e c.args.half.now is half (eq-eqb c.args.half.now.addr 0 c.if-half-ne0.false) c.in-WriteHalf-Write.field-0-0 (subst (BarrierStands r.past c.args.half.now.port) c.in-WriteHalf-Write.is-0 (c.barrier.ensures r s)) c.in-WriteHalf-Write.is-1

pub returns-in-ReadHalf-Write : goal.returns-in-ReadHalf-Write
returns-in-ReadHalf-Write c = λ r e s is half.
    write_after_read r e c.args.half.now is half (eq-eqb c.args.half.now.addr 0 c.if-half-ne0.false) c.in-ReadHalf-Write.field-0-0 (subst (BarrierStands r.past c.args.half.now.port) c.in-ReadHalf-Write.is-0 (c.barrier.ensures r s)) c.in-ReadHalf-Write.is-1

pub returns-in-WriteHalf-Read : goal.returns-in-WriteHalf-Read
returns-in-WriteHalf-Read c = λ r e s is half.
    read_after_write r e c.args.half.now is half (eq-eqb c.args.half.now.addr 0 c.if-half-ne0.false) c.in-WriteHalf-Read.field-0-0 (subst (BarrierStands r.past c.args.half.now.port) c.in-WriteHalf-Read.is-0 (c.barrier.ensures r s)) c.in-WriteHalf-Read.is-1

pub returns-in-Open-default : goal.returns-in-Open-default
returns-in-Open-default c = λ r e s is half.
    after_open r e c.args.half.now is half (eq-eqb c.args.half.now.addr 0 c.if-half-ne0.false) c.in-Open-default.field-0-0 (subst (BarrierStands r.past c.args.half.now.port) c.in-Open-default.is-0 (c.barrier.ensures r s))

pub returns-in-Idle-default : goal.returns-in-Idle-default
returns-in-Idle-default c = λ r e s is half.
    after_none r e c.args.half.now is half (eq-eqb c.args.half.now.addr 0 c.if-half-ne0.false) (subst (BarrierStands r.past c.args.half.now.port) c.in-Idle-default.is-0 (c.barrier.ensures r s))
