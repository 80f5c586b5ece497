use Rattle.std.proofs.Common.{rules, ◌≡◌, ◌∙◌, Some, None, sym, ap}
use Rattle.ace_portck.proofs.Terms.{option_copied, option_or, find, is_on, Progress}
use Rattle.ace_portck.proofs.Found.{own_is_found}
use Rattle.ace_portck.proofs.transactions.Transactions.own_on.Goals as goal

pub returns-in-Some : goal.returns-in-Some
returns-in-Some c = λ h past p s.
    let reads = c.args.self.now.reads.list.items in
    let writes = c.args.self.now.writes.list.items in
    let r : option_copied c.find_on.result ≡ find (λ (v : Progress). is_on v.transaction c.args.line) reads = search rules in
    let first : find (λ (v : Progress). is_on v.transaction c.args.line) reads ≡ Some c.in-Some.x.now = sym r ∙ ap option_copied c.in-Some.is in
    sym (ap (λ o. option_or o (find (λ (v : Progress). is_on v.transaction c.args.line) writes)) first)
    ∙ own_is_found h past p c.args.self.now s c.args.line

pub returns-in-None : goal.returns-in-None
returns-in-None c = λ h past p s.
    let reads = c.args.self.now.reads.list.items in
    let writes = c.args.self.now.writes.list.items in
    let r : option_copied c.find_on.result ≡ find (λ (v : Progress). is_on v.transaction c.args.line) reads = search rules in
    let w : option_copied c.find_on-in-None.result ≡ find (λ (v : Progress). is_on v.transaction c.args.line) writes = search rules in
    let none : find (λ (v : Progress). is_on v.transaction c.args.line) reads ≡ None = sym r ∙ ap option_copied c.in-None.is in
    w ∙ sym (ap (λ o. option_or o (find (λ (v : Progress). is_on v.transaction c.args.line) writes)) none)
    ∙ own_is_found h past p c.args.self.now s c.args.line
