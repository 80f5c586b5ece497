use Rattle.std.proofs.Common.{◌≡◌, true, false, not, ◌&&◌, is_some, slice_get, Some, sym, ap, ◌∙◌}
use Rattle.ace_model.specs.declared.transactions.Transaction.{Transaction}
use Rattle.ace_event.specs.declared.event.Channel.TheVariants.{Write}
use Rattle.ace_model.specs.Grants.{has_grant}
use Rattle.ace_model.specs.Plans.{Plan}
use Rattle.ace_model.specs.Progress.{evicts, updates_memory}
use Rattle.ace_model.specs.Trace.{Trace}
use Rattle.ace_portck.specs.declared.target.Progress.{Progress}
use Rattle.ace_portck.specs.Pending.{pending_of}
use Rattle.ace_portck.specs.Targets.{data_of_write, progress_of}
use Rattle.ace_update.specs.Passed.{has_passed_on}
use Rattle.ace_update.proofs.DueWrites.{evict-begins, granted-begins, none-begins, update-begins, write-at}
use Rattle.ace_update.proofs.update.Update.is_due.Goals as goal

-- the transaction that an element of the list tells of
told : (plan : Plan) (past : Trace) (x : Progress) (y : Transaction) → x ≡ progress_of plan.header past y → x.transaction ≡ y
told plan past x y is = ap (λ (v : Progress). v.transaction) is

pub returns-then-x : goal.returns-then-x
returns-then-x c = λ plan past p k y s there is.
    let h = plan.header in
    let had : has_grant past y.port y.chan y.id ≡ true = ap (λ (v : Progress). v.granted) (sym is) ∙ c.if-x.true in
    sym (granted-begins h past s.legal.accepted p y (write-at h past p k y there) had)

pub returns-then-goes_past_the_cache : goal.returns-then-goes_past_the_cache
returns-then-goes_past_the_cache c = λ plan past p k y s there is.
    let h = plan.header in
    let x = c.args.x.now in
    let same = told plan past x y is in
    let low = c.if-goes_past_the_cache.true in
    let f : updates_memory y ≡ false = ap updates_memory (sym same) ∙ c.goes_past_the_cache.ensures.updates low in
    let e : evicts y ≡ false = ap evicts (sym same) ∙ c.goes_past_the_cache.ensures.evicts low in
    sym (none-begins h past y f e)

pub returns-then-is_some : goal.returns-then-is_some
returns-then-is_some c = λ plan past p k y s there is.
    let h = plan.header in
    let x = c.args.x.now in
    let same = told plan past x y is in
    let u : updates_memory y ≡ true = ap updates_memory (sym same) ∙ sym c.updates_memory.ensures ∙ c.if-updates_memory.true in
    let at : slice_get (pending_of h past p Write) k ≡ Some x.transaction = there ∙ ap Some (sym same) in
    let some : is_some (data_of_write past y) ≡ true =
    ap (λ v. is_some (data_of_write past v)) (sym same) ∙ ap is_some (sym (c.data.ensures plan past p k s at)) ∙ sym c.is_some.ensures ∙ c.if-is_some.true in
    let has : c.has.result ≡ has_passed_on h past y.addr = c.has.ensures ∙ s.passed.are x.transaction.addr ∙ ap (λ (v : Transaction). has_passed_on h past v.addr) same in
    ap not has ∙ sym (ap (λ b. b && not (has_passed_on h past y.addr)) some) ∙ update-begins h past s.legal.accepted p y (write-at h past p k y there) u

pub returns-else-is_some : goal.returns-else-is_some
returns-else-is_some c = λ plan past p k y s there is.
    let h = plan.header in
    let x = c.args.x.now in
    let same = told plan past x y is in
    let u : updates_memory y ≡ true = ap updates_memory (sym same) ∙ sym c.updates_memory.ensures ∙ c.if-updates_memory.true in
    let at : slice_get (pending_of h past p Write) k ≡ Some x.transaction = there ∙ ap Some (sym same) in
    let none : is_some (data_of_write past y) ≡ false =
    ap (λ v. is_some (data_of_write past v)) (sym same) ∙ ap is_some (sym (c.data.ensures plan past p k s at)) ∙ sym c.is_some.ensures ∙ c.if-is_some.false in
    c.if-is_some.false ∙ sym (ap (λ b. b && not (has_passed_on h past y.addr)) none) ∙ update-begins h past s.legal.accepted p y (write-at h past p k y there) u

pub returns-then-evicts : goal.returns-then-evicts
returns-then-evicts c = λ plan past p k y s there is.
    let h = plan.header in
    let x = c.args.x.now in
    let same = told plan past x y is in
    let f : updates_memory y ≡ false = ap updates_memory (sym same) ∙ sym c.updates_memory.ensures ∙ c.if-updates_memory.false in
    let e : evicts y ≡ true = ap evicts (sym same) ∙ sym c.evicts.ensures ∙ c.if-evicts.true in
    ap (λ (v : Progress). not v.complete) is ∙ evict-begins h past s.legal.accepted p y (write-at h past p k y there) f e

pub returns-else-evicts : goal.returns-else-evicts
returns-else-evicts c = λ plan past p k y s there is.
    let h = plan.header in
    let x = c.args.x.now in
    let same = told plan past x y is in
    let f : updates_memory y ≡ false = ap updates_memory (sym same) ∙ sym c.updates_memory.ensures ∙ c.if-updates_memory.false in
    let e : evicts y ≡ false = ap evicts (sym same) ∙ sym c.evicts.ensures ∙ c.if-evicts.false in
    c.if-evicts.false ∙ sym (none-begins h past y f e)
