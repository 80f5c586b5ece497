use Rattle.std.proofs.Common.{Some, None, sym, subst}
use Rattle.ace_home.specs.Services.{IsLeastFor}
use Rattle.ace_home.proofs.Firsts.{sooner-none}
use Rattle.ace_home.proofs.home.Home.put_first_with.Goals as goal

pub returns-in-None : goal.returns-in-None
returns-in-None g c = λ plan past p t. (None, subst (IsLeastFor (g.F.Among.has c.args.among.now) plan.header past c.args.x.now.transaction) c.in-None.is (c.service.ensures plan past p t), sym (sooner-none c.args.first.now))

pub returns-in-Some : goal.returns-in-Some
returns-in-Some g c = λ plan past p t. (Some c.in-Some.service, subst (IsLeastFor (g.F.Among.has c.args.among.now) plan.header past c.args.x.now.transaction) c.in-Some.is (c.service.ensures plan past p t), c.put_sooner.ensures)
