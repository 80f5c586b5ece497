use Rattle.std.proofs.Common.{◌≡◌, ◌||◌, not, true, sym, ap, ◌∙◌}
use Rattle.ace_sysck.proofs.Terms.{R, is_at, awaits_snoop}
use Rattle.ace_sysck.proofs.EventLaws.{responds-at}
use Rattle.ace_sysck.proofs.Forwarding.Forwarded.{forwarded-is}
use Rattle.ace_sysck.proofs.system.SysCheck.was_forwarded.Goals as goal
use Rattle.ace_sysck.proofs.system.SysCheck.was_forwarded.Goals.{then-waiting, else-waiting}

pub returns : goal.returns
returns c = λ r port id s out part other.
    let x = c.args.part.now in
    let boxes = c.args.self.now.inboxes in
    let first = (c.of.ensures.stands r s.messages).first in
    let waiting = c.is_at-waiting.ensures ∙ ap (λ o. is_at o x.place) first in
    let either : c.if-waiting.result ≡ (c.is_at-waiting.result || c.awaits_snoop-behind.result) =
    elim c.if-waiting.branch [
      | then-waiting w ↦ w.result-is ∙ w.if-waiting.true ∙ sym (ap (λ b. b || c.awaits_snoop-behind.result) w.if-waiting.true)
      | else-waiting w ↦ w.result-is ∙ sym (ap (λ b. b || c.awaits_snoop-behind.result) w.if-waiting.false)
    ] in
    ap not either ∙ ap (λ b. not (c.is_at-waiting.result || b)) c.awaits_snoop-behind.ensures
    ∙ ap (λ b. not (b || awaits_snoop boxes c.args.port x.place)) waiting
    ∙ sym (forwarded-is r boxes c.args.port x s.inboxes (responds-at r.header r.past (R port id 0 true 0) x out).there part other)
