use Rattle.std.proofs.Common.{◌≡◌, arith, ◌∙◌, ap, ◌++◌, ◌∷◌, [], append_assoc, map, codes}
use Rattle.std.specs.List.{range_with_len}
use Rattle.std.proofs.lemmas.List.FromFn.{map-range_with_len_more}
use Rattle.ace_event.specs.Ports.{port_letter}
use Rattle.ace_writer.proofs.text_buf.TextBuf.push_ports.Goals as goal

pub loop-port-preserved : goal.loop-port-preserved
loop-port-preserved c = record {
  in_ports = omega (arith, c.loop-port-test.true);
  len = omega (arith, c.loop-port.invariant.len, c.push.ensures.len);
  text = rw (map-range_with_len_more (port_letter c.args.header.now.ace) 0 c.loop-port.port c.loop-port.port (omega arith), c.push.ensures.value, c.letter_of.ensures, c.loop-port.invariant.text)
      (append_assoc c.args.self.now (codes "PORTS " ++ map (port_letter c.args.header.now.ace) (range_with_len 0 c.loop-port.port)) (port_letter c.args.header.now.ace c.loop-port.port ∷ []));
}

pub returns-clause-value : goal.returns-clause-value
returns-clause-value c =
    let letters = codes "PORTS " ++ map (port_letter c.args.header.now.ace) (range_with_len 0 c.loop-port.port) in
    let end : c.loop-port.port ≡ c.args.header.now.ports = omega (arith, c.loop-port-test.false, c.loop-port.invariant.in_ports) in
    c.push-2.ensures.value ∙ ap (λ l. l ++ 10 ∷ []) c.loop-port.invariant.text ∙ append_assoc c.args.self.now letters (10 ∷ [])
    ∙ ap (λ n. c.args.self.now ++ ((codes "PORTS " ++ map (port_letter c.args.header.now.ace) (range_with_len 0 n)) ++ 10 ∷ [])) end

pub returns-clause-len : goal.returns-clause-len
returns-clause-len c = omega (arith, c.push-2.ensures.len, c.loop-port.invariant.len, c.loop-port.invariant.in_ports, c.requires.header.most_ports)
