use Rattle.std.proofs.Common.{◌≡◌, false, List, subst, sym}
use Rattle.ace_event.specs.declared.event.Event.{Event}
use Rattle.ace_home.specs.Among.{HasHolders, IsStepAmong, is_enabled_among}
use Rattle.ace_fabric.specs.Runs.{Run, continued}
use Rattle.ace_fabric.specs.declared.fabric.Turn.TheVariants.{Idle, Moved}
use Rattle.ace_fabric.proofs.system.System.turn_among.Goals as goal

pub turn_among-requires-clause-holders : goal.turn_among-requires-clause-holders
turn_among-requires-clause-holders g c =
    subst (λ (r : Run). HasHolders (g.F.Among.has c.args.among.now) r.plan.header r.past) (sym c.self.view_is) c.requires.holders

pub returns-clause-moved : goal.returns-clause-moved
returns-clause-moved g c =
    subst
    (λ (r : Run). c.turn_among.result ≡ Moved
    → (burst : List Event) × IsStepAmong (g.F.Among.has c.args.among.now) r.plan r.past c.args.port burst × (c.turn_among.new.self ≡ continued burst r))
    c.self.view_is c.turn_among.ensures.moved

pub returns-clause-idle : goal.returns-clause-idle
returns-clause-idle g c =
    subst
    (λ (r : Run). c.turn_among.result ≡ Idle → (c.turn_among.new.self ≡ r) × (is_enabled_among (g.F.Among.has c.args.among.now) r.plan r.past c.args.port ≡ false))
    c.self.view_is c.turn_among.ensures.idle
