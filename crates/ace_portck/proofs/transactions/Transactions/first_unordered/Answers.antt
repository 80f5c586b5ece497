use Rattle.std.proofs.Common.{◌≡◌, ◌∙◌, option_map, arith}
use Rattle.std.proofs.lemmas.Grind.{common_steps}
use Rattle.ace_portck.proofs.Terms.{find, lesser, Progress, is_unordered}
use Rattle.ace_portck.proofs.Found.{first_unordered_is}
use Rattle.ace_portck.proofs.transactions.Transactions.first_unordered.Goals as goal

pub returns : goal.returns
returns c = λ h past p s.
    let found : c.lesser.result ≡ lesser (option_map (λ (v : Progress). v.transaction.place) (find (λ x. is_unordered x) c.args.self.now.reads.list.items)) (option_map (λ (v : Progress). v.transaction.place) (find (λ x. is_unordered x) c.args.self.now.writes.list.items)) = grind (arith, common_steps) in
    found ∙ first_unordered_is h past p c.args.self.now s
