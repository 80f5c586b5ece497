use Rattle.std.proofs.Common.{◌≡◌, ◌∙◌, true, false, sym, subst, refl}
use Rattle.std.proofs.lemmas.Bool.{eq-eqb}
use Rattle.ace_runs.specs.Bursts.{onto}
use Rattle.ace_runs.specs.Steps.{is_enabled_by, is_step_by}
use Rattle.ace_engine.specs.Engines.{EngineKind, Home, Master, Order, Update, numbers_of}
use Rattle.ace_home.proofs.Among.{step-among-by, step-stays}
use Rattle.ace_fabric.proofs.Given.{none-of-kind, none-of-master}
use Rattle.ace_fabric.proofs.Moves.{heard-part, other-masters, own-at}
use Rattle.ace_fabric.proofs.Taken.{step-by-is, steps-after}
use Rattle.ace_fabric.proofs.moving.by_master.Goals as goal

pub turn-requires-clause-serves : goal.turn-requires-clause-serves
turn-requires-clause-serves g c =
    let run = c.requires.run in
    let own = c.from-own.result in
    let at = own-at g.M.Engine run.0 run.1 c.args.masters.now c.args.port own c.index-masters-own.result run.2.masters_are run.3 c.from-own.ensures in
    run.2.masters_are.serve own _ at c.args.port ∙ eq-eqb c.args.port own (sym c.from-own.ensures)

pub returns-then-not-turn-clause-none : goal.returns-then-not-turn-clause-none
returns-then-not-turn-clause-none g c = λ _ plan past r.
    let run = c.requires.run in
    let own = c.from-own.result in
    let at = own-at g.M.Engine run.0 run.1 c.args.masters.now c.args.port own c.index-masters-own.result run.2.masters_are run.3 c.from-own.ensures in
    subst (λ (k : EngineKind). is_enabled_by (numbers_of k) plan past c.args.port ≡ false) r.masters_are.kind_is
    (c.turn.ensures.none c.if-not-turn.true plan past (r.masters_are.stand own _ at))

pub returns-clause-moved : goal.returns-clause-moved
returns-clause-moved g c = λ _ among plan past r.
    let run = c.requires.run in
    let port = c.args.port in
    let own = c.from-own.result in
    let out = c.turn.new.out in
    let at = own-at g.M.Engine run.0 run.1 c.args.masters.now port own c.index-masters-own.result run.2.masters_are run.3 c.from-own.ensures in
    let stood = r.masters_are.stand own _ at in
    let stands = c.turn.ensures.stands c.if-not-turn.false plan past stood in
    let legal = g.M.Engine.legal _ plan (onto out past) stands in
    let by : is_step_by (numbers_of Master) plan past port out ≡ true =
    subst (λ (k : EngineKind). is_step_by (numbers_of k) plan past port out ≡ true) r.masters_are.kind_is (c.turn.ensures.step c.if-not-turn.false plan past stood) in
    let step = step-by-is (numbers_of Master) plan past port out by in (
      step-among-by among plan past port out (numbers_of Master) (step-stays among plan past port out (numbers_of Master) refl by),
      record {
        legal = legal;
        steps = steps-after plan past port out r.steps step;
        home_is = heard-part g.H.Engine Home plan past out c.args.home.now c.hear.new.engine r.home_is legal (λ q. none-of-kind plan past Master Home port q out r.legal r.steps (λ e. cc) by) c.hear.ensures;
        update_is = heard-part g.U.Engine Update plan past out c.args.update.now c.hear_all.new.one r.update_is legal (λ q. none-of-kind plan past Master Update port q out r.legal r.steps (λ e. cc) by) c.hear_all.ensures.one;
        order_is = heard-part g.O.Engine Order plan past out c.args.order.now c.hear_all.new.other r.order_is legal (λ q. none-of-kind plan past Master Order port q out r.legal r.steps (λ e. cc) by) c.hear_all.ensures.other;
        masters_are = other-masters g.M.Engine plan past out own c.args.masters.now c.hear_all.new.engines _ c.turn.new.self r.masters_are at c.turn.ensures.serves stands legal
            (λ q off. none-of-master plan past port q out r.legal r.steps (λ e. off (sym e ∙ sym c.from-own.ensures)) by) c.hear_all.ensures.engines;
      },
    )
