use Rattle.std.proofs.Common.{◌≡◌, ◌++◌, ◌∷◌, ◌∙◌, [], arith, ap, length, refl, subst, sym}
use Rattle.std.proofs.lemmas.List.{length-append}
use Rattle.ace_event.specs.declared.header.Header.{Header}
use Rattle.ace_fabric.specs.System.{IsMasterOf}
use Rattle.ace_fabric.proofs.ScriptMasters.{ArePlaced, all-placed, of_script, one-more-placed}
use Rattle.ace_fabric.proofs.masters.masters.Goals as goal

pub loop-port-preserved : goal.loop-port-preserved
loop-port-preserved c =
    let i = c.loop-port.invariant in
    let plan = c.args.plan.now.plan in
    let old = c.loop-port.masters.items in
    let next = c.in_ok-next.next in
    let more : c.add.new.masters.items ≡ old ++ next ∷ [] = c.in_ok-add.ensures in
    let longer = length-append old (next ∷ []) in
    let last : IsMasterOf of_script plan [] (length old) next = subst (λ n. IsMasterOf of_script plan [] n next) (sym i.count) c.in_ok-next.ensures in
    record {
      count = ap length more ∙ omega (arith, longer, i.count);
      placed = subst (ArePlaced of_script plan []) (sym more) (one-more-placed of_script plan [] old next i.placed last);
    }

pub returns : goal.returns
returns c =
    let plan = c.args.plan.now.plan in
    let ports : c.header-port-end.result.ports ≡ plan.header.ports = ap (λ (h : Header). h.ports) c.header-port-end.ensures in
    let count : length c.loop-port.masters.items ≡ plan.header.ports = omega (arith, ports, c.loop-port.invariant.count, c.loop-port.auto.port-end, c.loop-port-test.false) in
    all-placed of_script plan [] c.loop-port.masters.items refl count c.loop-port.invariant.placed
