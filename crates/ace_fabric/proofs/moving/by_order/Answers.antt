use Rattle.std.proofs.Common.{◌≡◌, arith, true, false, subst, refl}
use Rattle.ace_runs.specs.Bursts.{onto}
use Rattle.ace_runs.specs.Steps.{is_enabled_by, is_step_by}
use Rattle.ace_engine.specs.Engines.{EngineKind, Home, Master, Order, Update, numbers_of}
use Rattle.ace_home.proofs.Among.{step-among-by, step-stays}
use Rattle.ace_fabric.proofs.Given.{none-of-kind}
use Rattle.ace_fabric.proofs.Moves.{all-masters, heard-part, moved-part}
use Rattle.ace_fabric.proofs.Taken.{step-by-is, steps-after}
use Rattle.ace_fabric.proofs.moving.by_order.Goals as goal

pub returns-then-not-turn-clause-none : goal.returns-then-not-turn-clause-none
returns-then-not-turn-clause-none g c = λ _ plan past r.
    subst (λ (k : EngineKind). is_enabled_by (numbers_of k) plan past c.args.port ≡ false) r.order_is.kind_is
    (c.turn.ensures.none c.if-not-turn.true plan past r.order_is.stands)

pub returns-clause-moved : goal.returns-clause-moved
returns-clause-moved g c = λ _ among plan past r.
    let port = c.args.port in
    let out = c.turn.new.out in
    let stood = r.order_is.stands in
    let stands = c.turn.ensures.stands c.if-not-turn.false plan past stood in
    let legal = g.O.Engine.legal _ plan (onto out past) stands in
    let by : is_step_by (numbers_of Order) plan past port out ≡ true =
    subst (λ (k : EngineKind). is_step_by (numbers_of k) plan past port out ≡ true) r.order_is.kind_is (c.turn.ensures.step c.if-not-turn.false plan past stood) in
    let step = step-by-is (numbers_of Order) plan past port out by in (
      step-among-by among plan past port out (numbers_of Order) (step-stays among plan past port out (numbers_of Order) refl by),
      record {
        legal = legal;
        steps = steps-after plan past port out r.steps step;
        order_is = moved-part g.O.Engine Order plan past out c.args.order.now c.turn.new.self r.order_is stands c.turn.ensures.serves;
        home_is = heard-part g.H.Engine Home plan past out c.args.home.now c.hear_all.new.one r.home_is legal (λ q. none-of-kind plan past Order Home port q out r.legal r.steps (λ e. cc) by) c.hear_all.ensures.one;
        update_is = heard-part g.U.Engine Update plan past out c.args.update.now c.hear_all.new.other r.update_is legal (λ q. none-of-kind plan past Order Update port q out r.legal r.steps (λ e. cc) by) c.hear_all.ensures.other;
        masters_are = all-masters g.M.Engine plan past out _ c.args.masters.now c.hear_all.new.engines (omega arith) r.masters_are legal
            (λ q. none-of-kind plan past Order Master port q out r.legal r.steps (λ e. cc) by) c.hear_all.ensures.engines;
      },
    )
