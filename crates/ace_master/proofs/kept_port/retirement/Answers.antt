use Rattle.std.proofs.Common.{◌≡◌, ◌∷◌, [], sym, ap, ◌∙◌, arith}
use Rattle.ace_event.specs.declared.event.Event.TheVariants.{Op as Retires}
use Rattle.ace_event.specs.declared.event.Outcome.TheVariants.{Ok}
use Rattle.ace_model.specs.OrderRules.{retired}
use Rattle.ace_portck.specs.OnePort.{port_of}
use Rattle.ace_master.proofs.Retirements.{few-retired}
use Rattle.ace_master.proofs.kept_port.retirement.Goals as goal

pub returns : goal.returns
returns c = λ plan past k.
    let p = port_of c.args.port.now in
    let few = few-retired plan past p k.legal.right k.legal.follows in
    let is = c.retired.ensures plan.header past p k.kept in
    let number : retired past p ≡ c.min.result = omega (arith, few, is) in
    ap (λ n. Retires p n Ok ∷ []) number ∙ ap (λ q. Retires q c.min.result Ok ∷ []) (sym c.port.ensures)
