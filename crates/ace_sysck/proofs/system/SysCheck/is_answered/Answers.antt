use Rattle.std.proofs.Common.{◌||◌, not, true, sym, ap, ◌∙◌}
use Rattle.ace_sysck.proofs.Terms.{Header, R, implies, list_all, ports_below, is_other_ace, is_at, awaits}
use Rattle.ace_sysck.proofs.EventLaws.{responds-at}
use Rattle.ace_sysck.proofs.Forwarding.InboxRules.{answered_by_all-is}
use Rattle.ace_sysck.proofs.system.SysCheck.is_answered.Goals as goal

pub returns : goal.returns
returns c = λ r port id s out part.
    let x = c.args.part.now in
    let h = r.header in
    let boxes = c.args.self.now.inboxes in
    let first = (c.of.ensures.stands r s.messages).first in
    let waiting = c.is_at-waiting.ensures ∙ ap (λ o. is_at o x.place) first in
    let all = answered_by_all-is r boxes x s.inboxes (responds-at h r.past (R port id 0 true 0) x out).there part in
    c.is_answered_by_all.ensures
    ∙ ap (λ (v : Header). list_all (λ n. implies (is_other_ace v x.port n) (not (c.is_at-waiting.result || awaits boxes n x.place))) (ports_below v.ports)) s.header
    ∙ ap (λ b. list_all (λ n. implies (is_other_ace h x.port n) (not (b || awaits boxes n x.place))) (ports_below h.ports)) waiting ∙ sym all
