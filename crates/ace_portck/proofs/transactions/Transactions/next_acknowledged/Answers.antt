use Rattle.std.proofs.Common.{◌≡◌, ◌∙◌, ap, sym, Some, option_map}
use Rattle.ace_portck.proofs.Terms.{option_copied, outstanding, next_complete, progress_of}
use Rattle.ace_portck.proofs.Found.{acknowledged_named}
use Rattle.ace_portck.proofs.transactions.Transactions.next_acknowledged.Goals as goal

pub returns-in-Some : goal.returns-in-Some
returns-in-Some c = λ h past p s ace.
    let next : next_complete past p c.args.chan ≡ Some c.in-Some.id = sym (c.next_complete.ensures h past p s ace) ∙ c.in-Some.is in
    let named : option_copied c.outstanding.result ≡ option_map (progress_of h past) (outstanding h past p c.args.chan c.in-Some.id) = c.outstanding.ensures h past p s in
    named ∙ ap (option_map (progress_of h past)) (acknowledged_named h past p c.args.chan c.in-Some.id s.accepted ace next)
