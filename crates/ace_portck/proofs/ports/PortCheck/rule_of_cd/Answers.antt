use Rattle.std.proofs.Common.{◌≡◌, ◌&&◌, nat_lt, true, refl, sym, ap, ◌∙◌}
use Rattle.ace_portck.proofs.Terms.{Header, is_ace}
use Rattle.ace_portck.proofs.ports.PortCheck.rule_of_cd.Goals as goal

pub returns : goal.returns
returns c = λ r word s.
    let p = c.args.port in
    let port : (nat_lt p r.header.ports && is_ace r.header p) ≡ true = ap (λ (h : Header). nat_lt p h.ports && is_ace h p) (sym s.header) ∙ sym c.has_ace_port.ensures ∙ c.if-not-has_ace_port.false in
    let burst = c.may_send.ensures r.header r.past p word (c.kept-kept.ensures r s).snoops in
    c.unless.ensures ∙ rw (port, burst) refl
