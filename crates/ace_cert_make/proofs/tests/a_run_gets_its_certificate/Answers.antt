use Rattle.std.proofs.Common.{◌≡◌, List, None, refl, reverse, subst, sym}
use Rattle.ace_codes.specs.Reads.{ar_kind_of}
use Rattle.ace_event.specs.declared.event.Event.{Event}
use Rattle.ace_event.specs.declared.header.Header.{Header}
use Rattle.ace_model.specs.Accepted.{IsAccepted, first_break_by, rules}
use Rattle.ace_model.proofs.Rules.FirstBreak.{no_break_accepted}
use Rattle.ace_cert.specs.Worked.{loads_and_stores}
use Rattle.ace_cert_make.proofs.tests.a_run_gets_its_certificate.Goals as goal

abbrev one_ace : Header
one_ace = record { version = 1; ports = 1; ace = 1 }

no-break : first_break_by rules one_ace loads_and_stores ≡ None
unfolding ar_kind_of
no-break = refl

pub make-requires-clause-accepted : goal.make-requires-clause-accepted
make-requires-clause-accepted g c =
    subst (λ (xs : List Event). IsAccepted one_ace (reverse xs)) (sym c.loads_and_stores-trace.ensures) (no_break_accepted rules one_ace loads_and_stores no-break)
