-- What a `Patient` stands before.
use Rattle.ace_retry.specs.declared.patient.Patient.{Patient}

-- the reader or writer that it calls
abbrev pub inner_of : {T : Type 0} → Patient T → T
inner_of p = p.inner
