use Rattle.std.proofs.Common.{◌≡◌, ◌∙◌, Some, length, sym, ap}
use Rattle.ace_sysck.proofs.Terms.{issued}
use Rattle.ace_sysck.proofs.WhatIsHeard.{issue_found}
use Rattle.ace_sysck.proofs.system.SysCheck.hear_address.Goals as goal

pub returns-in-Some : goal.returns-in-Some
returns-in-Some c = λ is lines r m.
    let e = c.args.event.now in
    let new : issued (length r.past) e ≡ Some c.in-Some.x =
    ap (λ n. issued n e) (sym (c.place.ensures r m.ports)) ∙ sym c.issued.ensures ∙ c.in-Some.is in
    c.begin_any.ensures c.args.ports.now lines r e new m

pub returns-in_default : goal.returns-in_default
returns-in_default c = λ is. absurd (issue_found c.place.result c.args.event.now is (sym c.issued.ensures ∙ c.in_default.is))
