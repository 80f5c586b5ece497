use Rattle.std.proofs.Common.{◌≡◌, [], refl, subst}
use Rattle.std.specs.Prelude.{IfOk}
use Rattle.ace_model.specs.Plans.{PlanWithRoom}
use Rattle.ace_home.specs.Home.{HomeStands}
use Rattle.ace_order.specs.Order.{OrderStands}
use Rattle.ace_update.specs.Update.{UpdateStands}
use Rattle.ace_fabric.specs.Parts.{AreMasters}
use Rattle.ace_fabric.specs.System.{starting}
use Rattle.ace_fabric.proofs.ScriptMasters.{of_script}
use Rattle.ace_fabric.proofs.system.begin.Goals as goal

pub run_with-requires : goal.run_with-requires
run_with-requires c =
    let plan = c.in_ok-plan.plan.plan in
    let engines = c.in-Ok.engines in
    let home : HomeStands engines.home plan [] = subst (λ (v : PlanWithRoom). HomeStands engines.home v.plan []) c.view.ensures.view c.in-Ok.ensures.home in
    let update : UpdateStands engines.update plan [] =
    subst (λ (v : PlanWithRoom). UpdateStands engines.update v.plan []) c.view.ensures.view c.in-Ok.ensures.update in
    let order : OrderStands engines.order plan [] = subst (λ (v : PlanWithRoom). OrderStands engines.order v.plan []) c.view.ensures.view c.in-Ok.ensures.order in
    let masters : AreMasters of_script plan [] c.in-Ok-masters.masters.items =
    subst (λ (v : PlanWithRoom). AreMasters of_script v.plan [] c.in-Ok-masters.masters.items) c.view-2.ensures.view c.in-Ok-masters.ensures in
    record {
      legal = home.legal;
      steps = ([], refl);
      home_is = record { kind_is = refl; serves = λ p low. refl; stands = home };
      update_is = record { kind_is = refl; serves = λ p low. refl; stands = update };
      order_is = record { kind_is = refl; serves = λ p low. refl; stands = order };
      masters_are = masters;
    }

pub returns : goal.returns
returns c = subst (λ (v : PlanWithRoom). IfOk c.run_with.result (λ s. s ≡ starting v)) c.in_ok-plan.ensures c.run_with.ensures
