use Rattle.std.proofs.Common.{◌∙◌, ◌∷◌, sym, subst, arith}
use Rattle.ace_portck.proofs.Terms.{Header, IsAccepted, IsHeard, PortsStand, record_at}
use Rattle.ace_portck.proofs.AllPorts.{port_elsewhere, port_below}
use Rattle.ace_portck.proofs.ports.PortCheck.hear.Goals as goal

pub returns-in-Some-clause-stands : goal.returns-in-Some-clause-stands
returns-in-Some-clause-stands c = λ r m.
    let s = m.stands in
    let e = c.args.event.now in
    let p = c.in-Some.port in
    let items = c.args.self.now.ports.items in
    let outside = c.args.self.now.outside in
    let few = m.few in
    let count = s.count in
    let accepted : IsAccepted r.header (e ∷ r.past) = (s.accepted, m.keeps) in
    let own = sym c.port_of.ensures ∙ c.in-Some.is in
    let below = port_below r.header r.past e p accepted own in
    let len = s.len in
    let then = subst (λ (v : Header). IsHeard v r.past c.args.self.now.count e p → PortsStand v r.past items outside → PortsStand v (e ∷ r.past) c.hear_at.new.ports.items outside) s.header
    (λ heard before. c.hear_at.ensures.stands r.past outside heard (c.has_byte_id.ensures, s.bytes) (omega (arith, below, len)) (λ k at. m.room p k own at) before) in
    record {
      header = s.header;
      is_header = s.is_header;
      accepted = accepted;
      bytes = (c.has_byte_id.ensures, s.bytes);
      count = omega (arith, few, count);
      len = c.hear_at.ensures.len ∙ s.len;
      opening = c.hear.ensures r.header r.past accepted s.opening;
      ports = then (record { accepted = accepted; place_is = s.count; port = own }) s.ports;
    }

pub returns-in_default-clause-stands : goal.returns-in_default-clause-stands
returns-in_default-clause-stands c = λ r m.
    let s = m.stands in
    let e = c.args.event.now in
    let items = c.args.self.now.ports.items in
    let outside = c.args.self.now.outside in
    let few = m.few in
    let count = s.count in
    let accepted : IsAccepted r.header (e ∷ r.past) = (s.accepted, m.keeps) in
    record {
      header = s.header;
      is_header = s.is_header;
      accepted = accepted;
      bytes = (c.has_byte_id.ensures, s.bytes);
      count = omega (arith, few, count);
      len = s.len;
      opening = c.hear.ensures r.header r.past accepted s.opening;
      ports = λ p.
          port_elsewhere r.header r.past p (record_at items outside p) e accepted (λ is. c.in_default.not-Some p (c.port_of.ensures ∙ is)) (s.ports p);
    }
