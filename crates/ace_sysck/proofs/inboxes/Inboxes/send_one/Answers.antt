use Rattle.std.proofs.Common.{◌≡◌, ◌<◌, length, slice_get, slice_set, Some, arith, sym, ap, ◌∙◌}
use Rattle.std.proofs.lemmas.Bool.{ne_eqb}
use Rattle.std.proofs.lemmas.Grind.{common_steps}
use Rattle.std.proofs.lemmas.Option.{slice_get-get_or}
use Rattle.ace_sysck.proofs.Terms.{with_item, Inboxes, Receives, sent_list, sent_to}
use Rattle.ace_sysck.proofs.Forwarding.InboxSteps.{sends_own, changes_one, changes_outside}
use Rattle.ace_sysck.proofs.inboxes.Inboxes.send_one.Goals as goal

pub returns-then-q-sender : goal.returns-then-q-sender
returns-then-q-sender c = sends_own c.args.self.now c.args.q c.args.sender (sent_list c.args.sent.now) c.if-q-sender.true

pub returns-else-q-len : goal.returns-else-q-len
returns-else-q-len c =
    let n = c.len.ensures in
    let f = c.if-q-len.false in
    changes_outside _ c.args.self.now c.args.q (grind (arith, common_steps))

pub returns-then-q-len : goal.returns-then-q-len
returns-then-q-len c =
    let s = c.args.self.now in
    let q = c.args.q in
    let b = c.index_mut.result.now in
    let n : Inboxes = record { ports = with_item s.ports q c.receive.new.inbox } in
    let len = c.len.ensures in
    let low : q < length s.ports.items = grind (arith, common_steps) in
    let at : slice_get s.ports.items q ≡ Some b = slice_get-get_or s.ports.items q b low ∙ ap Some (sym c.index_mut.ensures.value) in
    let items : n.ports.items ≡ slice_set s.ports.items q c.receive.new.inbox = grind (arith, common_steps) in
    changes_one (Receives (sent_to q c.args.sender (sent_list c.args.sent.now))) s n q b c.receive.new.inbox at items
    (rw (ne_eqb q c.args.sender c.if-q-sender.false) c.receive.ensures)
