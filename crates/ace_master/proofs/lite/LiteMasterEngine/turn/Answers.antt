use Rattle.std.proofs.Common.{◌≡◌, true, sym, subst, ◌∙◌}
use Rattle.std.proofs.lemmas.Bool.{eqb-true}
use Rattle.ace_runs.specs.Steps.{is_step_by}
use Rattle.ace_master.specs.Lite.{own_steps, port_of}
use Rattle.ace_master.proofs.lite.LiteMasterEngine.turn.Goals as goal

pub returns-in-Some-clause-step : goal.returns-in-Some-clause-step
returns-in-Some-clause-step c = λ moved plan past s.
    let port = eqb-true c.args._port (port_of c.args.self.now) c.requires.serves in
    subst (λ q. is_step_by own_steps plan past q c.send.new.out ≡ true) (c.send.ensures.port ∙ sym port) (c.send.ensures.turn plan past s c.in-Some.is).step

pub returns-in-None-clause-step : goal.returns-in-None-clause-step
returns-in-None-clause-step c = λ moved plan past s.
    let port = eqb-true c.args._port (port_of c.args.self.now) c.requires.serves in
    subst (λ q. is_step_by own_steps plan past q c.go_on.new.out ≡ true) (c.go_on.ensures.port ∙ sym port) (c.go_on.ensures.turn moved plan past s c.in-None.is).step
