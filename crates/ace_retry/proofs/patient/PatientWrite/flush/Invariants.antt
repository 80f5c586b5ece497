use Rattle.std.specs.Io.KnownBytes.{Keeps}
use Rattle.ace_retry.proofs.patient.PatientWrite.flush.Given as goal

-- what is known of the bytes is as it was
abbrev pub invariant-loop-try : goal.invariant-loop-try
invariant-loop-try g l = Keeps (g.W.Write.contents l.initial.self.inner) (g.W.Write.contents l.self.inner)
