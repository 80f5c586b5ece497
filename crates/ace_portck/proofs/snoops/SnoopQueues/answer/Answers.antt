use Rattle.std.proofs.Common.{◌≡◌, ◌<◌, ◌∷◌, ◌++◌, [], sym, ap, ◌∙◌, arith, drop, length, length-drop, slice_get, Some}
use Rattle.std.proofs.lemmas.Grind.{common_steps}
use Rattle.ace_portck.proofs.Terms.{deque_capacity, deque_len, answered}
use Rattle.std.proofs.lemmas.Option.{slice_get_within}
use Rattle.ace_model.proofs.General.Options.{some_is}
use Rattle.ace_portck.proofs.SnoopSteps.{snoops_cr, snoops_cr_data, cr-answers, answered-is}
use Rattle.ace_portck.proofs.snoops.SnoopQueues.answer.Goals as goal

pub returns-then-transfers_data-clause-stands : goal.returns-then-transfers_data-clause-stands
returns-then-transfers_data-clause-stands c = λ h past p st a s.
    let q = c.args.self.now in
    let x = c.in-Some.snoop in
    let e = c.in-Some.ensures in
    let front : slice_get q.waiting.items 0 ≡ Some x = ap (λ v. slice_get v 0) e.items in
    let step = snoops_cr_data past p q s c.args.resp st x front (sym c.transfers_data.ensures ∙ c.if-transfers_data.true) in
    let k = c.push_back-full.ensures in
    let long = q.sending.ok.0 in
    let low = step.0 in
    let fits : deque_len q.sending < deque_capacity q.sending = omega (arith, long, low) in
    let items : c.push_back-full.new.self.items ≡ q.sending.items ++ x ∷ [] = grind (arith, common_steps, k.succeeds fits, k.items) in
    rw (e.rest, items, e.capacity, k.in_place fits) step.1

pub returns-else-transfers_data-clause-stands : goal.returns-else-transfers_data-clause-stands
returns-else-transfers_data-clause-stands c = λ h past p st a s.
    let e = c.in-Some.ensures in
    let front : slice_get c.args.self.now.waiting.items 0 ≡ Some c.in-Some.snoop = ap (λ v. slice_get v 0) e.items in
    rw (e.rest, e.capacity)
    (snoops_cr past p c.args.self.now s c.args.resp st c.in-Some.snoop front (sym c.transfers_data.ensures ∙ c.if-transfers_data.false))

pub returns-in_default-clause-stands : goal.returns-in_default-clause-stands
returns-in_default-clause-stands c = λ h past p st a s.
    let ws = c.args.self.now.waiting.items in
    let x = some_is (answered past p) (cr-answers h past p c.args.resp st a) in
    let some = slice_get_within ws 0 x.0 (answered-is past p c.args.self.now s ∙ x.1) in
    let whole : length ws ≡ length (drop 1 ws) = ap length (c.in_default.ensures.items ∙ c.in_default.ensures.rest) in
    let less = length-drop 1 ws in
    absurd (omega (arith, some, whole, less))
