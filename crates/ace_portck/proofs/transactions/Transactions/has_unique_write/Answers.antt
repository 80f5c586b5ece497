use Rattle.std.proofs.Common.{◌≡◌, ◌∙◌, sym, arith}
use Rattle.std.proofs.lemmas.Grind.{common_steps}
use Rattle.ace_portck.proofs.Terms.{list_any, is_unique_write, is_some_and, write_kind, Progress}
use Rattle.ace_portck.proofs.Found.{has_write_is}
use Rattle.ace_portck.proofs.transactions.Transactions.has_unique_write.Goals as goal

pub returns : goal.returns
returns c = λ h past p s.
    let found : c.has_unique_write.result ≡ list_any (λ (v : Progress). is_some_and (write_kind v.transaction) is_unique_write) c.args.self.now.writes.list.items = grind (arith, common_steps) in
    found ∙ sym (has_write_is h past p c.args.self.now s is_unique_write)
