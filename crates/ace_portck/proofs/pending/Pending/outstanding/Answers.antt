use Rattle.std.proofs.Common.{rules, ◌≡◌, ◌==◌, ◌∙◌}
use Rattle.ace_portck.proofs.Terms.{find, option_copied, Progress}
use Rattle.ace_portck.proofs.Found.{named_is_found}
use Rattle.ace_portck.proofs.pending.Pending.outstanding.Goals as goal

pub returns : goal.returns
returns c = λ h past p chan stands.
    let found : option_copied c.find_id.result ≡ find (λ (v : Progress). v.transaction.id == c.args.id) c.args.self.now.list.items = search rules in
    found ∙ named_is_found h past p chan c.args.id c.args.self.now.list.items stands.lists.list_is
