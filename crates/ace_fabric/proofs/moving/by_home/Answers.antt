use Rattle.std.proofs.Common.{◌≡◌, arith, true, false, subst}
use Rattle.ace_runs.specs.Bursts.{onto}
use Rattle.ace_engine.specs.Engines.{EngineKind, Home, Master, Order, Update, numbers_of}
use Rattle.ace_home.specs.Among.{is_enabled_by_among, is_step_by_among}
use Rattle.ace_home.proofs.Among.{step-among-by, step-of-any}
use Rattle.ace_fabric.proofs.Given.{none-of-kind}
use Rattle.ace_fabric.proofs.Moves.{all-masters, heard-part, moved-part}
use Rattle.ace_fabric.proofs.Taken.{step-by-is, steps-after}
use Rattle.ace_fabric.proofs.moving.by_home.Goals as goal

pub returns-then-not-turn_among-clause-none : goal.returns-then-not-turn_among-clause-none
returns-then-not-turn_among-clause-none g c = λ _ plan past r.
    subst (λ (k : EngineKind). is_enabled_by_among (g.F.Among.has c.args.among.now) (numbers_of k) plan past c.args.port ≡ false) r.home_is.kind_is
    (c.turn_among.ensures.none c.if-not-turn_among.true plan past r.home_is.stands)

pub returns-clause-moved : goal.returns-clause-moved
returns-clause-moved g c = λ _ plan past r.
    let port = c.args.port in
    let out = c.turn_among.new.out in
    let stood = r.home_is.stands in
    let stands = c.turn_among.ensures.stands c.if-not-turn_among.false plan past stood in
    let legal = g.H.Engine.legal _ plan (onto out past) stands in
    let among = g.F.Among.has c.args.among.now in
    let taken : is_step_by_among among (numbers_of Home) plan past port out ≡ true =
    subst (λ (k : EngineKind). is_step_by_among among (numbers_of k) plan past port out ≡ true) r.home_is.kind_is (c.turn_among.ensures.step c.if-not-turn_among.false plan past stood) in
    let by = step-of-any among plan past port out (numbers_of Home) taken in
    let step = step-by-is (numbers_of Home) plan past port out by in (
      step-among-by among plan past port out (numbers_of Home) taken,
      record {
        legal = legal;
        steps = steps-after plan past port out r.steps step;
        home_is = moved-part g.H.Engine Home plan past out c.args.home.now c.turn_among.new.self r.home_is stands c.turn_among.ensures.serves;
        update_is = heard-part g.U.Engine Update plan past out c.args.update.now c.hear_all.new.one r.update_is legal (λ q. none-of-kind plan past Home Update port q out r.legal r.steps (λ e. cc) by) c.hear_all.ensures.one;
        order_is = heard-part g.O.Engine Order plan past out c.args.order.now c.hear_all.new.other r.order_is legal (λ q. none-of-kind plan past Home Order port q out r.legal r.steps (λ e. cc) by) c.hear_all.ensures.other;
        masters_are = all-masters g.M.Engine plan past out _ c.args.masters.now c.hear_all.new.engines (omega arith) r.masters_are legal
            (λ q. none-of-kind plan past Home Master port q out r.legal r.steps (λ e. cc) by) c.hear_all.ensures.engines;
      },
    )
