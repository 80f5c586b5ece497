use Rattle.std.proofs.Common.{◌≡◌, ◌∙◌, ap, map, arith, option_map, vec_capacity}
use Rattle.ace_portck.proofs.Terms.{more, is_ace, issued, begun, renewed, ending_of, on_channel, without_id}
use Rattle.ace_portck.proofs.Few.{are_apart}
use Rattle.ace_portck.proofs.Heard.{pending_heard}
use Rattle.ace_portck.proofs.pending.Pending.hear.Goals as goal

pub returns : goal.returns
returns c = λ past heard bytes stands.
    let h = c.args.header.now in
    let e = c.args.event.now in
    let p = c.args.port in
    let d = c.args.chan in
    let s = c.args.self.now in
    let settled = c.settle.new.self in
    let apart = are_apart h past p d s.list.items stands.lists.list_is in
    let new : c.on_channel.result ≡ on_channel d (issued c.args.place e) = c.on_channel.ensures ∙ ap (on_channel d) c.issued.ensures in
    let kept : settled.list.items ≡ without_id (ending_of s.waiting.items (is_ace h p) d e) (map (renewed e) s.list.items) =
    c.settle.ensures.list ∙ ap (without_id (ending_of s.waiting.items (is_ace h p) d e)) (c.renew_all.ensures.items p heard.port apart) in
    let room : vec_capacity settled.list ≡ vec_capacity s.list = c.settle.ensures.room ∙ c.renew_all.ensures.capacity in
    let most = stands.roomy.list in
    let most_waiting = stands.roomy.waiting in
    let grown = c.put_in.ensures.capacity in
    let longer = c.settle.ensures.capacity in
    pending_heard h past e p d c.args.place (vec_capacity settled.list) s _ settled.list.items heard bytes stands kept (omega (arith, room, most))
    (λ low. c.put_in.ensures.items low ∙ ap (λ o. more settled.list.items (option_map begun o)) new)
    (λ none. c.put_in.ensures.none (new ∙ none))
    c.settle.ensures.waiting
    c.settle.ensures.idle
    (record { list = omega (arith, room, most, grown); waiting = omega (arith, longer, most_waiting) })
