use Rattle.std.proofs.Common.{true, sym, ap, ◌∙◌}
use Rattle.std.proofs.lemmas.Bool.{not-true}
use Rattle.ace_model.specs.Transactions.{is_read}
use Rattle.ace_home.proofs.Kept.{had}
use Rattle.ace_home.proofs.Transfers.{transfers-told}
use Rattle.ace_home.proofs.home.Home.is_unbegun.Goals as goal

pub returns : goal.returns
returns c = λ unfailed own plan past p t.
    let x = c.args.x.now in
    record {
      had = had c.args.self.now plan past p x true t own;
      held = c.is_line_held_up.ensures c.if-not-is_line_held_up.false plan.header past t.stands.shares;
      first = λ read. sym (transfers-told plan.header past x t.is (ap is_read read)) ∙ c.if-x-ne0.false;
      unfailed = sym (c.has_failed.ensures plan past p t) ∙ not-true c.has_failed.result unfailed;
    }
