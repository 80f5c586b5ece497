use Rattle.std.proofs.Common.{◌≡◌, arith, rules, map, subst, sym, ◌∙◌}
use Rattle.std.specs.List.{range_with_len}
use Rattle.std.proofs.lemmas.List.{take_all}
use Rattle.ace_before.specs.Looks.{port_before}
use Rattle.ace_before.proofs.Ports.{ports_next}
use Rattle.ace_before.proofs.looks.ports_before.Goals as goal

pub loop-port-preserved : goal.loop-port-preserved
loop-port-preserved c = record {
  few = omega (arith, c.loop-port-test.true);
  len = search rules;
  so_far = λ r p s n same. rw c.from.ensures (ports_next (port_before r.header r.past c.args.line) c.loop-port.each c.loop-port.port c.port_before.result
      (omega (arith, c.loop-port-test.true, c.loop-port.invariant.len)) (c.loop-port.invariant.so_far r p s n same) (c.port_before.ensures r p s n same));
}

pub returns : goal.returns
returns c r p s n same =
    let whole : c.loop-port.port ≡ 32 = omega (arith, c.loop-port.invariant.few, c.loop-port-test.false) in
    subst (λ k. c.loop-port.each ≡ map (port_before r.header r.past c.args.line) (range_with_len 0 k)) whole
    (sym (take_all c.loop-port.port c.loop-port.each (omega (arith, whole, c.loop-port.invariant.len))) ∙ c.loop-port.invariant.so_far r p s n same)
