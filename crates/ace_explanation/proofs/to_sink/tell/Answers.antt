use Rattle.std.proofs.Common.{subst, sym, OnErr}
use Rattle.ace_explanation.proofs.to_sink.tell.Goals as goal
use Rattle.ace_explanation.specs.Told.{HasToldPart}

pub returns-in-Accepted-clause-part : goal.returns-in-Accepted-clause-part
returns-in-Accepted-clause-part g c =
    subst (λ x. OnErr c.tell_accepted.result (HasToldPart c.args.facts.now c.args.name.now c.args.short x (g.K.Sink.held c.args.out.now) (g.K.Sink.held c.tell_accepted.new.out)))
    (sym c.in-Accepted.is) c.tell_accepted.ensures.part

pub returns-in-Refused-clause-part : goal.returns-in-Refused-clause-part
returns-in-Refused-clause-part g c = rw c.in-Refused.is c.tell_refusal.ensures.part
