use Rattle.std.proofs.Common.{refl}
use Rattle.ace_side_facts.proofs.GatheringSteps.{others_stay}
use Rattle.ace_side_facts.proofs.TimeSteps.{times_stay}
use Rattle.ace_side_facts.proofs.gathering.Gathering.hear.Goals as goal

pub returns-in-TimeUnit : goal.returns-in-TimeUnit
returns-in-TimeUnit c past stands can = rw c.in-TimeUnit.is (record {
  labels = c.add_unit.ensures c.args.query.now past stands.labels;
  times = times_stay past _ _ (λ _. refl) stands.times;
  same = stands.same;
})

pub returns-in_ok-add_name-in-Port : goal.returns-in_ok-add_name-in-Port
returns-in_ok-add_name-in-Port c past stands can = rw c.in-Port.is (record {
  labels = c.in_ok-add_name-in-Port.ensures c.args.query.now past stands.labels;
  times = times_stay past _ _ (λ _. refl) stands.times;
  same = stands.same;
})

pub returns-in_default : goal.returns-in_default
returns-in_default c past stands can =
    others_stay c.args.query.now past c.args.line c.args.self.now c.in_default.not-TimeUnit c.in_default.not-Port
    c.in_default.not-Addr c.in_default.not-Time c.in_default.not-Note stands
