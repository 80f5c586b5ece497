use Rattle.std.proofs.Common.{◌≡◌, true, false, not, ◌&&◌, sym, ap, ◌∙◌}
use Rattle.ace_model.specs.Grants.{has_passed_data}
use Rattle.ace_model.specs.Transactions.{is_read}
use Rattle.ace_runs.specs.LineSteps.{takes_dirt}
use Rattle.ace_home.specs.Services.{if_kept}
use Rattle.ace_home.proofs.FirstEvents.{passed-is, stuck-dirty, stuck-not, transfer-granted, transfer-held}
use Rattle.ace_home.proofs.Kept.{had-served, lines-stand, place-served, recording, system-stand}
use Rattle.ace_home.proofs.Outstanding.{granted-line}
use Rattle.ace_home.proofs.Transfers.{bits-are, same-transfer, transfers-told}
use Rattle.ace_home.proofs.home.Home.transfer.Goals as goal

pub returns-then-is_held_up : goal.returns-then-is_held_up
returns-then-is_held_up c = λ plan past p v chan.
    let t = v.tells in
    let h = plan.header in
    let x = c.args.x.now in
    let own = had-served c.args.self.now plan past p c.args.place x v in
    let lines = lines-stand c.args.self.now plan past c.lines-lines.result.now t.stands c.lines-lines.ensures in
    let at = place-served c.args.self.now plan past p c.args.place x c.lines-lines.result.now v c.lines-lines.ensures in
    let held = sym (c.is_held_up.ensures (recording plan past) lines at) ∙ c.if-is_held_up.true in
    sym (transfer-held h past t.stands.legal.accepted p x.transaction t.pending chan own x.transfers (transfers-told h past x t.is (ap is_read chan)) held)

pub returns-then-is_stuck : goal.returns-then-is_stuck
returns-then-is_stuck c = λ plan past p v chan.
    let t = v.tells in
    let h = plan.header in
    let x = c.args.x.now in
    let a = t.stands.legal.accepted in
    let own = had-served c.args.self.now plan past p c.args.place x v in
    let line = granted-line h past a p x.transaction t.pending own in
    let lines = lines-stand c.args.self.now plan past c.lines-lines.result.now t.stands c.lines-lines.ensures in
    let dirty : c.has_passed_data-dirty.result ≡ has_passed_data h past x.transaction =
    c.has_passed_data-dirty.ensures (recording plan past) x.transaction.addr lines (place-served c.args.self.now plan past p c.args.place x c.lines-lines.result.now v c.lines-lines.ensures) ∙ passed-is h past a p x.transaction t.pending own in
    let takes : c.can_take_passed_data-takes.result ≡ takes_dirt h past x.transaction = c.can_take_passed_data-takes.ensures (recording plan past) lines (place-served c.args.self.now plan past p c.args.place x c.lines-lines.result.now v c.lines-lines.ensures) line in
    let both : (has_passed_data h past x.transaction && not (takes_dirt h past x.transaction)) ≡ true =
    ap (λ b. b && not (takes_dirt h past x.transaction)) (sym dirty) ∙ ap (λ b. c.has_passed_data-dirty.result && not b) (sym takes) ∙ sym c.is_stuck.ensures ∙ c.if-is_stuck.true in
    sym (stuck-dirty h past a p x.transaction t.pending both)

pub returns : goal.returns
returns c = λ plan past p v chan.
    let t = v.tells in
    let h = plan.header in
    let x = c.args.x.now in
    let a = t.stands.legal.accepted in
    let r = recording plan past in
    let own = had-served c.args.self.now plan past p c.args.place x v in
    let line = granted-line h past a p x.transaction t.pending own in
    let lines = lines-stand c.args.self.now plan past c.lines-lines.result.now t.stands c.lines-lines.ensures in
    let system = system-stand c.args.self.now plan past c.system.result.now t.stands c.system.ensures in
    let reads : is_read x.transaction.chan ≡ true = ap is_read chan in
    let dirty : c.has_passed_data-dirty.result ≡ has_passed_data h past x.transaction =
    c.has_passed_data-dirty.ensures r x.transaction.addr lines (place-served c.args.self.now plan past p c.args.place x c.lines-lines.result.now v c.lines-lines.ensures) ∙ passed-is h past a p x.transaction t.pending own in
    let takes : c.can_take_passed_data-takes.result ≡ takes_dirt h past x.transaction = c.can_take_passed_data-takes.ensures r lines (place-served c.args.self.now plan past p c.args.place x c.lines-lines.result.now v c.lines-lines.ensures) line in
    let both : (has_passed_data h past x.transaction && not (takes_dirt h past x.transaction)) ≡ false =
    ap (λ b. b && not (takes_dirt h past x.transaction)) (sym dirty) ∙ ap (λ b. c.has_passed_data-dirty.result && not b) (sym takes) ∙ sym c.is_stuck.ensures ∙ c.if-is_stuck.false in
    let shared = c.must_be_shared-shared.ensures r lines (place-served c.args.self.now plan past p c.args.place x c.lines-lines.result.now v c.lines-lines.ensures) line in
    let okay = c.is_okay-okay.ensures r system in
    let bits = bits-are h past x.transaction c.has_passed_data-dirty.result c.must_be_shared-shared.result c.is_okay-okay.result c.response_bits-resp.result c.response_bits-resp.ensures dirty shared okay in
    let reply = c.reply.ensures r x.transaction.addr x.transaction lines (place-served c.args.self.now plan past p c.args.place x c.lines-lines.result.now v c.lines-lines.ensures) line reads in
    let count = transfers-told h past x t.is reads in
    c.kept.ensures plan past t.stands
    ∙ ap (if_kept h past) (c.transfer_of.ensures ∙ same-transfer h past x.transaction x.transfers c.response_bits-resp.result c.reply.result count bits reply)
    ∙ sym (transfer-granted h past a p x.transaction t.pending chan own (stuck-not (has_passed_data h past x.transaction) (takes_dirt h past x.transaction) both))
