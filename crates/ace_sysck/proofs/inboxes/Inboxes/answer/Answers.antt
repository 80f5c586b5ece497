use Rattle.std.proofs.Common.{◌≡◌, ◌<◌, length, slice_get, slice_set, Some, arith, sym, ap, ◌∙◌}
use Rattle.std.proofs.lemmas.Grind.{common_steps}
use Rattle.std.proofs.lemmas.Option.{slice_get-get_or}
use Rattle.ace_sysck.proofs.Terms.{with_item, Inbox, Inboxes, LosesFirst}
use Rattle.ace_sysck.proofs.Forwarding.InboxSteps.{changes_outside, changes_one}
use Rattle.ace_sysck.proofs.inboxes.Inboxes.answer.Goals as goal

pub returns-then-p-len : goal.returns-then-p-len
returns-then-p-len c =
    let s = c.args.self.now in
    let p = c.args.port in
    let b = c.index_mut-inbox.result.now in
    let n : Inbox = record { parts = c.pop_front-first.new.self; forwarded = c.saturating_sub-inbox.result } in
    let after : Inboxes = record { ports = with_item s.ports p n } in
    let low : p < length s.ports.items = grind (arith, common_steps) in
    let at : slice_get s.ports.items p ≡ Some b = slice_get-get_or s.ports.items p b low ∙ ap Some (sym c.index_mut-inbox.ensures.value) in
    let items : after.ports.items ≡ slice_set s.ports.items p n = grind (arith, common_steps) in
    changes_one LosesFirst s after p b n at items
    (record { parts = c.pop_front-first.ensures.rest; count = c.saturating_sub-inbox.ensures; room = c.pop_front-first.ensures.capacity })

pub returns-else-p-len : goal.returns-else-p-len
returns-else-p-len c = changes_outside LosesFirst c.args.self.now c.args.port (grind (arith, common_steps))
