use Rattle.std.proofs.Common.{◌≡◌, ◌≢◌, ◌==◌, ◌∷◌, true, false, Some, sym, ap, subst, ◌∙◌, arith}
use Rattle.std.proofs.lemmas.Bool.{eqb-true, eq-eqb}
use Rattle.ace_portck.proofs.Terms.{Header, IsAccepted, is_some_and, port_of, IsHeard, PortStands}
use Rattle.ace_model.proofs.General.Options.{is_some_and-is}
use Rattle.ace_portck.proofs.AllPorts.{port_elsewhere}
use Rattle.ace_portck.proofs.one_port.OnePort.hear.Goals as goal

pub returns-then-is_at-clause-stands : goal.returns-then-is_at-clause-stands
returns-then-is_at-clause-stands c = λ h past p m.
    let s = m.stands in
    let e = c.args.event.now in
    let q = c.args.self.now.port in
    let few = m.few in
    let count = s.count in
    let named = is_some_and-is (port_of e) (λ r. r == q) (sym c.is_at.ensures ∙ c.if-is_at.true) in
    let own : port_of e ≡ Some q = named.1 ∙ ap Some (eqb-true named.0 q named.2) in
    let accepted : IsAccepted h (e ∷ past) = (s.accepted, m.keeps) in
    let then = subst (λ (v : Header). IsHeard v past c.args.self.now.count e q → PortStands v past q c.args.self.now.kept → PortStands v (e ∷ past) q c.hear_own.new.kept) s.header
    (λ heard before. c.hear_own.ensures.stands past heard (c.has_byte_id.ensures, s.bytes) before (m.room (own ∙ ap Some s.port))) in
    record {
      header = s.header;
      port = s.port;
      accepted = accepted;
      bytes = (c.has_byte_id.ensures, s.bytes);
      count = omega (arith, few, count);
      kept =
          subst (λ r. PortStands h (e ∷ past) r c.hear_own.new.kept) s.port
          (then (record { accepted = accepted; place_is = count; port = own }) (subst (λ r. PortStands h past r c.args.self.now.kept) (sym s.port) s.kept));
    }

pub returns-else-is_at-clause-stands : goal.returns-else-is_at-clause-stands
returns-else-is_at-clause-stands c = λ h past p m.
    let s = m.stands in
    let e = c.args.event.now in
    let q = c.args.self.now.port in
    let few = m.few in
    let count = s.count in
    let accepted : IsAccepted h (e ∷ past) = (s.accepted, m.keeps) in
    let other : port_of e ≢ Some p = λ own.
    let here : is_some_and (port_of e) (λ r. r == q) ≡ true = ap (λ o. is_some_and o (λ r. r == q)) own ∙ eq-eqb p q (sym s.port) in
    let bad : true ≡ false = sym here ∙ sym c.is_at.ensures ∙ c.if-is_at.false in cc in
    record {
      header = s.header;
      port = s.port;
      accepted = accepted;
      bytes = (c.has_byte_id.ensures, s.bytes);
      count = omega (arith, few, count);
      kept = port_elsewhere h past p c.args.self.now.kept e accepted other s.kept;
    }
