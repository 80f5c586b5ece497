-- What hears a trace for a certificate has heard one event more.
use Rattle.std.proofs.Common.{◌∷◌, Result, Ok, Err, OnOk}
use Rattle.std.specs.Prelude.{⊤}
use Rattle.ace_event.specs.Range.{FitsFields}
use Rattle.ace_event.specs.declared.event.Event.{Event}
use Rattle.ace_event.specs.declared.header.Header.{Header}
use Rattle.ace_model.specs.Accepted.{IsAccepted}
use Rattle.ace_model.specs.Trace.{Trace}
use Rattle.ace_cert_make.specs.Stands as making
use Rattle.ace_cert_make.specs.declared.maker.Maker.{Maker}
use Rattle.ace_account.specs.Listeners.{IsOrdered}

pub ordered_next : {E : Type 0} (r : Result ⊤ E) (m m' : Maker) (h : Header) (past : Trace) (e : Event) → IsOrdered m h past → FitsFields e → IsAccepted h (e ∷ past)
    → OnOk r (making.Stands m' (e ∷ past)) → OnOk r (IsOrdered m' h (e ∷ past))
ordered_next (Ok x) m m' h past e o fits accepted stands = record { made = stands; accepted = accepted; fits = (fits, o.fits) }
ordered_next (Err failed) m m' h past e o fits accepted stands = tt
