use Rattle.std.proofs.Common.{◌≡◌, nat_lt, true, refl, sym, ap, ◌∙◌}
use Rattle.ace_portck.proofs.Terms.{Header}
use Rattle.ace_portck.proofs.ports.PortCheck.rule_of_w.Goals as goal

pub returns : goal.returns
returns c = λ r word s.
    let p = c.args.port in
    let port : nat_lt p r.header.ports ≡ true = ap (λ (h : Header). nat_lt p h.ports) (sym s.header) ∙ sym c.has_port.ensures ∙ c.if-not-has_port.false in
    let burst = c.may_have_beat.ensures r.header r.past p word (c.kept-kept.ensures r s).bursts in
    c.unless.ensures ∙ rw (port, burst) refl
