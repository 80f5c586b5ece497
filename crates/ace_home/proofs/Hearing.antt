-- The shares may hear the next event of a trace for which an engine may stand.
use Rattle.std.proofs.Common.{◌∷◌, arith}
use Rattle.ace_event.specs.declared.event.Event.{Event}
use Rattle.ace_model.specs.Plans.{Plan}
use Rattle.ace_model.specs.Trace.{Trace}
use Rattle.ace_runs.proofs.Few.EachPort.{six-snoops-for-each}
use Rattle.ace_runs.proofs.Few.KnownLines.{each-names-port}
use Rattle.ace_engine.specs.Engines.{IsLegal}
use Rattle.ace_engine.proofs.LegalSteps.{legal-before}
use Rattle.ace_engine.proofs.Rooms.{few-events-there, few-lines-known}
use Rattle.ace_check.specs.Shares.{MayHear}

pub may-hear : (plan : Plan) (past : Trace) (e : Event) → IsLegal plan (e ∷ past) → MayHear plan.header past e
may-hear plan past e legal = record {
  fine = legal.accepted.1;
  port = each-names-port plan.header past e legal.right.version legal.accepted;
  few = few-events-there plan past (legal-before plan past e legal);
  lines = few-lines-known plan (e ∷ past) legal;
  snoops = λ p.
      let most = six-snoops-for-each plan (e ∷ past) p legal.accepted legal.follows legal.lean in
      let operations = legal.right.few in
      omega (arith, most, operations);
}
