use Rattle.std.proofs.Common.{◌≡◌, false, List, subst}
use Rattle.ace_event.specs.declared.event.Event.{Event}
use Rattle.ace_runs.specs.Steps.{IsStep, is_enabled}
use Rattle.ace_fabric.specs.Runs.{Run, continued}
use Rattle.ace_fabric.specs.declared.fabric.Turn.TheVariants.{Idle, Moved}
use Rattle.ace_fabric.proofs.system.System.turn.Goals as goal

pub returns-clause-moved : goal.returns-clause-moved
returns-clause-moved c =
    subst (λ (r : Run). c.turn.result ≡ Moved → (burst : List Event) × IsStep r.plan r.past c.args.port burst × (c.turn.new.self ≡ continued burst r))
    c.self.view_is c.turn.ensures.moved

pub returns-clause-idle : goal.returns-clause-idle
returns-clause-idle c =
    subst (λ (r : Run). c.turn.result ≡ Idle → (c.turn.new.self ≡ r) × (is_enabled r.plan r.past c.args.port ≡ false)) c.self.view_is c.turn.ensures.idle
