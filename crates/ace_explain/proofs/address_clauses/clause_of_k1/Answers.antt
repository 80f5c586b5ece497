use Rattle.std.proofs.Common.{nat_lt, sym, ap, ◌∙◌}
use Rattle.std.proofs.lemmas.Bool.{lt-ltb}
use Rattle.ace_event.specs.declared.header.Header.{Header}
use Rattle.ace_explain.proofs.AddressLetters.{ace_lite_port}
use Rattle.ace_explain.proofs.address_clauses.clause_of_k1.Goals as goal

pub returns-then-port-header : goal.returns-then-port-header
returns-then-port-header c = λ r same.
    ace_lite_port r c.args.event.now c.in-Some.port (sym c.port_of.ensures ∙ c.in-Some.is)
    (ap (λ (h : Header). nat_lt c.in-Some.port h.ports) (sym same) ∙ lt-ltb c.in-Some.port c.args.header.now.ports c.if-port-header.true)
