-- What is told of an accepted trace.
use Rattle.std.specs.Prelude.{◌≡◌, ⊤, ℕ, List, [], Option, Result, Ok, Err}
use Rattle.std.specs.Io.KnownBytes.{Appends}
use Rattle.ace_event.specs.declared.header.Header.{Header}
use Rattle.ace_io.specs.Faults.{Rose}
use Rattle.ace_model.specs.Trace.{Trace}
use Rattle.ace_cert.specs.declared.cert.Cert.{Cert}
use Rattle.ace_cert.specs.Certificates.{IsCertificate}
use Rattle.ace_report.specs.Put.{AppendsPart}
use Rattle.ace_report.specs.Report.{report_text}
use Rattle.ace_account.specs.declared.listener.Account.{Account}
use Rattle.ace_account.specs.declared.listener.Account.TheVariants.{Report, Order}
use Rattle.ace_account.specs.declared.listener.AccountErr.{AccountErr}
use Rattle.ace_account.specs.declared.listener.AccountErr.TheVariants.{NoMemory, Failed}
use Rattle.ace_account.specs.Certificate.{cert_text}

-- the text is the account of the trace: its report, or the text of a certificate of it
abbrev pub IsAccount : Account → Header → Trace → List ℕ → Type 0
IsAccount Report h past text = text ≡ report_text h past
IsAccount Order h past text = (cert : Cert) × IsCertificate past cert × (text ≡ cert_text cert)

-- What was appended where an account was to be put: all of it, or where the sink failed a front;
-- where there was no memory, nothing.
abbrev pub HasPut : Account → Header → Trace → Option (List ℕ) → Option (List ℕ)
    → Result ⊤ AccountErr → Type 0
HasPut account h past old new (Ok done) =
    (text : List ℕ) × IsAccount account h past text × Appends old new text
HasPut account h past old new (Err Failed) =
    (text : List ℕ) × IsAccount account h past text × AppendsPart old new text
HasPut account h past old new (Err NoMemory) = Appends old new []

-- the count of faults of the sink stays, or rose where it failed
abbrev pub HasPutCause : ℕ → ℕ → Result ⊤ AccountErr → Type 0
HasPutCause before now (Err Failed) = Rose before now
HasPutCause before now result = now ≡ before
