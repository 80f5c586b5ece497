use Rattle.std.proofs.Common.{◌≡◌, true, false, subst, sym}
use Rattle.ace_model.specs.Plans.{Plan}
use Rattle.ace_model.specs.Trace.{Trace}
use Rattle.ace_runs.specs.Bursts.{onto}
use Rattle.ace_runs.specs.Steps.{is_enabled_by, is_step_by}
use Rattle.ace_engine.specs.Engines.{Master, numbers_of}
use Rattle.ace_fabric.specs.PortMaster.{IsMaster, StandsAsMaster}
use Rattle.ace_fabric.proofs.PortMasters.{moved, none, stepped}
use Rattle.ace_fabric.proofs.port_master.PortMasterEngine.turn.Goals as goal

pub turn-requires-clause-stands : goal.turn-requires-clause-stands
turn-requires-clause-stands g c =
    let s = c.requires.stands in
    let m : IsMaster g.A.Engine c.in-Ace.master s.0 s.1 = subst (λ x. StandsAsMaster g.A.Engine g.L.Engine x s.0 s.1) c.in-Ace.is s.2 in
    (s.0, s.1, m.stands, s.3)

pub turn-requires-in-Lite-clause-stands : goal.turn-requires-in-Lite-clause-stands
turn-requires-in-Lite-clause-stands g c =
    let s = c.requires.stands in
    let m : IsMaster g.L.Engine c.in-Lite.master s.0 s.1 = subst (λ x. StandsAsMaster g.A.Engine g.L.Engine x s.0 s.1) c.in-Lite.is s.2 in
    (s.0, s.1, m.stands, s.3)

pub returns-in-Ace-clause-step : goal.returns-in-Ace-clause-step
returns-in-Ace-clause-step g c = λ t.
    let p = c.args.port in
    let burst = c.turn.new.out in
    subst (λ m. (plan : Plan) (past : Trace) → StandsAsMaster g.A.Engine g.L.Engine m plan past → is_step_by (numbers_of Master) plan past p burst ≡ true)
    (sym c.in-Ace.is) (stepped g.A.Engine c.in-Ace.master p burst (c.turn.ensures.step t))

pub returns-in-Ace-clause-stands : goal.returns-in-Ace-clause-stands
returns-in-Ace-clause-stands g c = λ t.
    let burst = c.turn.new.out in
    subst (λ m. (plan : Plan) (past : Trace) → StandsAsMaster g.A.Engine g.L.Engine m plan past → IsMaster g.A.Engine c.turn.new.self plan (onto burst past))
    (sym c.in-Ace.is) (moved g.A.Engine c.in-Ace.master c.turn.new.self burst (c.turn.ensures.stands t))

pub returns-in-Ace-clause-none : goal.returns-in-Ace-clause-none
returns-in-Ace-clause-none g c = λ f.
    let p = c.args.port in
    subst (λ m. (plan : Plan) (past : Trace) → StandsAsMaster g.A.Engine g.L.Engine m plan past → is_enabled_by (numbers_of Master) plan past p ≡ false)
    (sym c.in-Ace.is) (none g.A.Engine c.in-Ace.master p (c.turn.ensures.none f))

pub returns-in-Lite-clause-step : goal.returns-in-Lite-clause-step
returns-in-Lite-clause-step g c = λ t.
    let p = c.args.port in
    let burst = c.turn-in-Lite.new.out in
    subst (λ m. (plan : Plan) (past : Trace) → StandsAsMaster g.A.Engine g.L.Engine m plan past → is_step_by (numbers_of Master) plan past p burst ≡ true)
    (sym c.in-Lite.is) (stepped g.L.Engine c.in-Lite.master p burst (c.turn-in-Lite.ensures.step t))

pub returns-in-Lite-clause-stands : goal.returns-in-Lite-clause-stands
returns-in-Lite-clause-stands g c = λ t.
    let burst = c.turn-in-Lite.new.out in
    subst (λ m. (plan : Plan) (past : Trace) → StandsAsMaster g.A.Engine g.L.Engine m plan past → IsMaster g.L.Engine c.turn-in-Lite.new.self plan (onto burst past))
    (sym c.in-Lite.is) (moved g.L.Engine c.in-Lite.master c.turn-in-Lite.new.self burst (c.turn-in-Lite.ensures.stands t))

pub returns-in-Lite-clause-none : goal.returns-in-Lite-clause-none
returns-in-Lite-clause-none g c = λ f.
    let p = c.args.port in
    subst (λ m. (plan : Plan) (past : Trace) → StandsAsMaster g.A.Engine g.L.Engine m plan past → is_enabled_by (numbers_of Master) plan past p ≡ false)
    (sym c.in-Lite.is) (none g.L.Engine c.in-Lite.master p (c.turn-in-Lite.ensures.none f))
