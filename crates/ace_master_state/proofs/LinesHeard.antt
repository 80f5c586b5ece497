-- What an event leaves of a line at a port is what its change says.
use Rattle.std.proofs.Common.{◌≡◌, ◌≢◌, ℕ, Bool, true, false, ◌&&◌, ◌==◌, ◌∷◌, length, Option, Some, refl, sym, ap, ◌∙◌}
use Rattle.std.proofs.lemmas.Bool.{eq-eqb, eqb-true, false_from_ne_true}
use Rattle.ace_event.specs.declared.event.Channel.{Channel}
use Rattle.ace_event.specs.declared.event.Channel.TheVariants.{Read, Write}
use Rattle.ace_event.specs.declared.event.Event.{Event}
use Rattle.ace_event.specs.declared.event.Event.TheVariants as event
use Rattle.ace_event.specs.declared.header.Header.{Header}
use Rattle.ace_model.specs.declared.transactions.Transaction.{Transaction}
use Rattle.ace_model.specs.Accepted.{IsAccepted}
use Rattle.ace_model.specs.Copies.{copy_of}
use Rattle.ace_model.specs.States.{state_of}
use Rattle.ace_model.specs.Trace.{Trace, is_some_and, port_of}
use Rattle.ace_model.specs.Transactions.{ended, has_outstanding_on, issued, transaction_of}
use Rattle.ace_model.proofs.General.Options.{Some-injective}
use Rattle.ace_model.proofs.Trace.Growth.{IsIssued, named-issued}
use Rattle.ace_model.proofs.Trace.Issued.{transaction_of-name}
use Rattle.ace_model.proofs.Trace.Outstanding.{acknowledged_is, ends_lite, ends_lite_write}
use Rattle.ace_runs.specs.Segments.{is_at_port}
use Rattle.ace_runs.proofs.NeverStuck.Operations.Lines.HeldLines.{state-untold}
use Rattle.ace_cache.specs.declared.way.Way.{Way}
use Rattle.ace_master_state.specs.Cached.{LineHeld}
use Rattle.ace_master_state.proofs.UnderWay.{as-before}

-- ---- what an event ends ------------------------------------------------------------------------------

-- The transaction that an event ends was issued, by the event's port.
pub record IsEnded (past : Trace) (e : Event) (z : Transaction) : Type 0 where
  pub was : IsIssued past z
  pub port : port_of e ≡ Some z.port

of-name : (past : Trace) (q : ℕ) (c : Channel) (i : ℕ) (z : Transaction) → transaction_of past q c i ≡ Some z → IsIssued past z × (Some q ≡ Some z.port)
of-name past q c i z named = (named-issued past q c i z named, ap Some (sym (transaction_of-name past q c i z named).port))

pub ended-issued : (h : Header) (past : Trace) (e : Event) (z : Transaction) → ended h past e ≡ Some z → IsEnded past e z
ended-issued h past (event.Rk q st) z is = let n = acknowledged_is past q Read z is in let o = of-name past q Read n.id z n.named in record { was = o.0; port = o.1 }
ended-issued h past (event.Wk q st) z is = let n = acknowledged_is past q Write z is in let o = of-name past q Write n.id z n.named in record { was = o.0; port = o.1 }
ended-issued h past (event.R q i resp last word) z is = let n = ends_lite h past q i resp last word z is in let o = of-name past q Read i z n.1 in record { was = o.0; port = o.1 }
ended-issued h past (event.B q i resp) z is = let n = ends_lite_write h past q i resp z is in let o = of-name past q Write i z n.1 in record { was = o.0; port = o.1 }
ended-issued h past e z is = cc

-- ---- an event of another port ------------------------------------------------------------------------

and-none : (a b : Bool) → a ≡ false → (a && b) ≡ false
and-none true b f = cc
and-none false b f = refl

module _ (h : Header) (past : Trace) (e : Event) (a : IsAccepted h (e ∷ past)) (p l : ℕ) (apart : is_at_port p e ≡ false) where
  other-port : (q : ℕ) → port_of e ≡ Some q → q ≢ p
  other-port q port same =
      let here : is_at_port p e ≡ true = ap (λ o. is_some_and o (λ r. r == p)) port ∙ eq-eqb q p same in
      let bad : true ≡ false = sym here ∙ apart in cc

  pub state-elsewhere : state_of h (e ∷ past) p l ≡ state_of h past p l
  state-elsewhere = state-untold h past e p l (and-none (is_at_port p e) _ apart)

pub issued-port : (past : Trace) (e : Event) (x : Transaction) → issued (length past) e ≡ Some x → port_of e ≡ Some x.port
issued-port past (event.Ar q i addr snoop dom bar lock) x is = ap (λ (v : Transaction). Some v.port) (Some-injective _ x is)
issued-port past (event.Aw q i addr snoop dom bar) x is = ap (λ (v : Transaction). Some v.port) (Some-injective _ x is)
issued-port past e x is = cc

pub busy-elsewhere : (h : Header) (past : Trace) (e : Event) → IsAccepted h (e ∷ past) → (p l : ℕ) → is_at_port p e ≡ false
    → has_outstanding_on h (e ∷ past) p l ≡ has_outstanding_on h past p l
busy-elsewhere h past e a p l apart =
    as-before h past e a p l
    (λ x new port. absurd (other-port h past e a p l apart x.port (issued-port past e x new) port))
    (λ z gone. let d = ended-issued h past e z gone in (d.was, λ port. absurd (other-port h past e a p l apart z.port d.port port)))

pub copy-elsewhere : (past : Trace) (e : Event) (p l : ℕ) → is_at_port p e ≡ false → copy_of (e ∷ past) p l ≡ copy_of past p l
copy-elsewhere past (event.R q i resp last word) p l apart = let off = swapped p q apart in rw off refl
  where
    swapped : (p q : ℕ) → (q == p) ≡ false → (p == q) ≡ false
    swapped p q f = false_from_ne_true (p == q) (λ t. let back = eq-eqb q p (sym (eqb-true p q t)) in cc)
copy-elsewhere past (event.D q addr strobe x line) p l apart = let off = swapped p q apart in rw off refl
  where
    swapped : (p q : ℕ) → (q == p) ≡ false → (p == q) ≡ false
    swapped p q f = false_from_ne_true (p == q) (λ t. let back = eq-eqb q p (sym (eqb-true p q t)) in cc)
copy-elsewhere past e p l apart = refl

pub held-elsewhere : (h : Header) (past : Trace) (e : Event) → IsAccepted h (e ∷ past) → (p l : ℕ) (o : Option Way) → is_at_port p e ≡ false → LineHeld h past p l o
    → LineHeld h (e ∷ past) p l o
held-elsewhere h past e a p l o apart s = record {
  state = s.state ∙ sym (state-elsewhere h past e a p l apart);
  some = s.some;
  busy = λ w is. s.busy w is ∙ sym (busy-elsewhere h past e a p l apart);
  copy = λ w is. s.copy w is ∙ sym (copy-elsewhere past e p l apart);
}
