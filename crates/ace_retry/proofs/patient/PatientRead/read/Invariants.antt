use Rattle.std.specs.Io.KnownBytes.{Keeps}
use Rattle.ace_retry.proofs.patient.PatientRead.read.Given as goal

-- what is known of the bytes is as it was
abbrev pub invariant-loop-try : goal.invariant-loop-try
invariant-loop-try g l = Keeps (g.R.Read.remaining l.initial.self.inner) (g.R.Read.remaining l.self.inner)
