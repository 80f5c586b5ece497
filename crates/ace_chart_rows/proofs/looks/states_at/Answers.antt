use Rattle.std.proofs.Common.{◌≡◌, ℕ, arith, rules, map, subst, sym, ◌∙◌}
use Rattle.std.specs.List.{range_with_len}
use Rattle.std.proofs.lemmas.List.{take_all}
use Rattle.ace_model.specs.States.{state_of}
use Rattle.ace_chart_rows.proofs.States.{states_next}
use Rattle.ace_chart_rows.proofs.looks.states_at.Goals as goal

pub loop-port-preserved : goal.loop-port-preserved
loop-port-preserved c = record {
  few = omega (arith, c.loop-port-test.true);
  len = search rules;
  so_far = λ r line s same. rw c.from.ensures (states_next (λ p. state_of r.header r.past p line) c.loop-port.states c.loop-port.port c.state.result
      (omega (arith, c.loop-port-test.true, c.loop-port.invariant.len)) (c.loop-port.invariant.so_far r line s same) (c.state.ensures r line s same));
}

pub returns : goal.returns
returns c r line s same =
    let whole : c.loop-port.port ≡ 32 = omega (arith, c.loop-port.invariant.few, c.loop-port-test.false) in
    subst (λ n. c.loop-port.states ≡ map (λ p. state_of r.header r.past p line) (range_with_len 0 n)) whole
    (sym (take_all c.loop-port.port c.loop-port.states (omega (arith, whole, c.loop-port.invariant.len))) ∙ c.loop-port.invariant.so_far r line s same)
