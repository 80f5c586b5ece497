use Rattle.std.proofs.Common.{◌≡◌, ◌∷◌, ℕ, true, false, subst, sym}
use Rattle.ace_model.specs.Plans.{Plan}
use Rattle.ace_model.specs.Trace.{Trace}
use Rattle.ace_engine.specs.Engines.{IsLegal, Master, is_given_by}
use Rattle.ace_fabric.specs.PortMaster.{IsMaster, StandsAsMaster, serves}
use Rattle.ace_fabric.proofs.PortMasters.{heard}
use Rattle.ace_fabric.proofs.port_master.PortMasterEngine.hear.Goals as goal

pub returns-in-Ace-clause-stands : goal.returns-in-Ace-clause-stands
returns-in-Ace-clause-stands g c =
    let e = c.args.event.now in
    subst (λ m. (plan : Plan) (past : Trace) → StandsAsMaster g.A.Engine g.L.Engine m plan past → IsLegal plan (e ∷ past)
    → ((p : ℕ) → serves g.A.Engine g.L.Engine m p ≡ true → is_given_by Master past p e ≡ false) → IsMaster g.A.Engine c.hear.new.self plan (e ∷ past))
    (sym c.in-Ace.is) (heard g.A.Engine c.in-Ace.master c.hear.new.self e c.hear.ensures.stands)

pub returns-in-Lite-clause-stands : goal.returns-in-Lite-clause-stands
returns-in-Lite-clause-stands g c =
    let e = c.args.event.now in
    subst (λ m. (plan : Plan) (past : Trace) → StandsAsMaster g.A.Engine g.L.Engine m plan past → IsLegal plan (e ∷ past)
    → ((p : ℕ) → serves g.A.Engine g.L.Engine m p ≡ true → is_given_by Master past p e ≡ false) → IsMaster g.L.Engine c.hear-in-Lite.new.self plan (e ∷ past))
    (sym c.in-Lite.is) (heard g.L.Engine c.in-Lite.master c.hear-in-Lite.new.self e c.hear-in-Lite.ensures.stands)
