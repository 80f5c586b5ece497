use Rattle.std.proofs.Common.{◌≡◌, ℕ, true, subst, sym}
use Rattle.ace_model.specs.Plans.{IsRight, Plan, longer}
use Rattle.ace_model.specs.Trace.{Trace}
use Rattle.ace_fabric.specs.PortMaster.{IsMaster, StandsAsMaster, serves}
use Rattle.ace_fabric.proofs.PortMasters.{given}
use Rattle.ace_fabric.proofs.port_master.PortMasterMaster.push.Goals as goal

pub push-requires : goal.push-requires
push-requires g c =
    let r = c.requires in
    let m : IsMaster g.A.Engine c.in-Ace.master r.0 r.1 = subst (λ x. StandsAsMaster g.A.Engine g.L.Engine x r.0 r.1) c.in-Ace.is r.3 in
    (r.0, r.1, r.2, m.stands, subst (λ x. serves g.A.Engine g.L.Engine x r.2 ≡ true) c.in-Ace.is r.4, r.5)

pub push-requires-in-Lite : goal.push-requires-in-Lite
push-requires-in-Lite g c =
    let r = c.requires in
    let m : IsMaster g.L.Engine c.in-Lite.master r.0 r.1 = subst (λ x. StandsAsMaster g.A.Engine g.L.Engine x r.0 r.1) c.in-Lite.is r.3 in
    (r.0, r.1, r.2, m.stands, subst (λ x. serves g.A.Engine g.L.Engine x r.2 ≡ true) c.in-Lite.is r.4, r.5)

pub returns-in-Ace-clause-stands : goal.returns-in-Ace-clause-stands
returns-in-Ace-clause-stands g c =
    let op = c.args.op in
    subst (λ m. (plan : Plan) (past : Trace) (port : ℕ) → StandsAsMaster g.A.Engine g.L.Engine m plan past → serves g.A.Engine g.L.Engine m port ≡ true
    → IsRight (longer plan (record { port = port; op = op })) → IsMaster g.A.Engine c.push.new.self (longer plan (record { port = port; op = op })) past)
    (sym c.in-Ace.is) (given g.A.Engine c.in-Ace.master c.push.new.self op c.push.ensures.stands)

pub returns-in-Lite-clause-stands : goal.returns-in-Lite-clause-stands
returns-in-Lite-clause-stands g c =
    let op = c.args.op in
    subst (λ m. (plan : Plan) (past : Trace) (port : ℕ) → StandsAsMaster g.A.Engine g.L.Engine m plan past → serves g.A.Engine g.L.Engine m port ≡ true
    → IsRight (longer plan (record { port = port; op = op })) → IsMaster g.L.Engine c.push-in-Lite.new.self (longer plan (record { port = port; op = op })) past)
    (sym c.in-Lite.is) (given g.L.Engine c.in-Lite.master c.push-in-Lite.new.self op c.push-in-Lite.ensures.stands)
