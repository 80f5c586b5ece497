use Rattle.ace_cert.proofs.Exact.{certificate-from_checks, checks-from_certificate}
use Rattle.ace_cert.proofs.laws.tests_are_exact.Goals as goal

pub returns : goal.returns
returns c = λ past cert. (certificate-from_checks past cert, checks-from_certificate past cert)
