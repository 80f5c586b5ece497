-- An outstanding transaction is one of a port of the header, so that its G keeps the rules of the ports.
use Rattle.std.proofs.Common.{◌≡◌, ◌<◌, ℕ, [], ◌∷◌, Some, None, refl, subst, inl, inr}
use Rattle.std.proofs.lemmas.Bool.{lt-ltb}
use Rattle.ace_check.proofs.Terms.{IsAccepted, least_of, port_rules, Transaction, Channel, G, Header, Trace, outstanding}
use Rattle.ace_model.proofs.Trace.Growth.{IsIssued, issued-cases, named-issued}
use Rattle.ace_model.proofs.Trace.Issued.{outstanding-name, outstanding-named}
use Rattle.ace_portck.proofs.AllPorts.{port_below}
use Rattle.ace_sysck.proofs.BarrierSteps.{issuing-port}

-- a transaction of an accepted trace is one of a port of the header
issued_within : (h : Header) (past : Trace) (x : Transaction) → IsAccepted h past → IsIssued past x → x.port < h.ports
issued_within h [] x accepted is = let low = is.before in cc
issued_within h (e ∷ past) x accepted is =
    elim (issued-cases e past x is) [
      | inl new ↦ port_below h past e x.port accepted (issuing-port past e x new)
      | inr old ↦ issued_within h past x accepted.0 old
    ]

-- so is an outstanding one
pub outstanding_within : (h : Header) (past : Trace) (p : ℕ) (c : Channel) (i : ℕ) (x : Transaction) → IsAccepted h past → outstanding h past p c i ≡ Some x → p < h.ports
outstanding_within h past p c i x accepted out =
    subst (λ n. n < h.ports) (outstanding-name h past p c i x out).port
    (issued_within h past x accepted (named-issued past p c i x (outstanding-named h past p c i x out)))

-- a G of an outstanding transaction breaks no rule of the ports
pub ports-keep : (h : Header) (past : Trace) (p : ℕ) (c : Channel) (i : ℕ) (x : Transaction) → IsAccepted h past → outstanding h past p c i ≡ Some x
    → None ≡ least_of port_rules h past (G p c i)
ports-keep h past p c i x accepted out = let within = lt-ltb p h.ports (outstanding_within h past p c i x accepted out) in rw within refl
