use Rattle.std.proofs.Common.{◌≡◌, ◌∙◌, sym, arith}
use Rattle.std.proofs.lemmas.Grind.{common_steps}
use Rattle.ace_portck.proofs.Terms.{list_any, gives_up, is_some_and, write_kind, Progress}
use Rattle.ace_portck.proofs.Found.{has_write_is}
use Rattle.ace_portck.proofs.transactions.Transactions.has_giving_up.Goals as goal

pub returns : goal.returns
returns c = λ h past p s.
    let found : c.has_giving_up.result ≡ list_any (λ (v : Progress). is_some_and (write_kind v.transaction) gives_up) c.args.self.now.writes.list.items = grind (arith, common_steps) in
    found ∙ sym (has_write_is h past p c.args.self.now s gives_up)
