use Rattle.std.proofs.Common.{◌≡◌, ◌<◌, ◌+◌, length, slice_get, slice_set, Some, arith, refl, sym, ap, ◌∙◌}
use Rattle.std.proofs.lemmas.Grind.{common_steps}
use Rattle.std.proofs.lemmas.Option.{slice_get-get_or}
use Rattle.ace_sysck.proofs.Terms.{with_item, Inbox, Inboxes, IsForwarded}
use Rattle.ace_sysck.proofs.Forwarding.InboxSteps.{changes_outside, changes_one}
use Rattle.ace_sysck.proofs.inboxes.Inboxes.forward.Goals as goal

pub returns-then-inbox-len : goal.returns-then-inbox-len
returns-then-inbox-len c =
    let s = c.args.self.now in
    let p = c.args.port in
    let b = c.index_mut-inbox.result.now in
    let n : Inbox = record { parts = b.parts; forwarded = b.forwarded + 1 } in
    let after : Inboxes = record { ports = with_item s.ports p n } in
    let low : p < length s.ports.items = grind (arith, common_steps) in
    let at : slice_get s.ports.items p ≡ Some b = slice_get-get_or s.ports.items p b low ∙ ap Some (sym c.index_mut-inbox.ensures.value) in
    let items : after.ports.items ≡ slice_set s.ports.items p n = grind (arith, common_steps) in
    changes_one IsForwarded s after p b n at items (record { parts = refl; count = λ l. refl })

pub returns-else-inbox-len : goal.returns-else-inbox-len
returns-else-inbox-len c =
    let s = c.args.self.now in
    let p = c.args.port in
    let b = c.index_mut-inbox.result.now in
    let n : Inbox = record { parts = b.parts; forwarded = b.forwarded } in
    let after : Inboxes = record { ports = with_item s.ports p n } in
    let low : p < length s.ports.items = grind (arith, common_steps) in
    let at : slice_get s.ports.items p ≡ Some b = slice_get-get_or s.ports.items p b low ∙ ap Some (sym c.index_mut-inbox.ensures.value) in
    let items : after.ports.items ≡ slice_set s.ports.items p n = grind (arith, common_steps) in
    let full = c.if-inbox-len.false in
    let count = c.len-then-p-len.ensures in
    let len = b.parts.ok.0 in
    changes_one IsForwarded s after p b n at items (record { parts = refl; count = λ l. absurd (omega (arith, l, full, count, len)) })

pub returns-else-p-len : goal.returns-else-p-len
returns-else-p-len c = changes_outside IsForwarded c.args.self.now c.args.port (grind (arith, common_steps))
