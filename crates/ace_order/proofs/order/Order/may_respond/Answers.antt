use Rattle.std.proofs.Common.{◌≡◌, Bool, refl, true, false, not, Some, is_none, sym, ap, subst, ◌∙◌}
use Rattle.std.proofs.lemmas.Bool.{not-true}
use Rattle.ace_event.specs.declared.event.Channel.TheVariants.{Read}
use Rattle.ace_model.specs.declared.transactions.Transaction.{Transaction}
use Rattle.ace_model.specs.Accepted.{least_of}
use Rattle.ace_model.specs.Barriers.{is_barrier_half}
use Rattle.ace_model.specs.Shares.{system_rules}
use Rattle.ace_model.specs.Transactions.{is_complete, outstanding}
use Rattle.ace_runs.specs.OrderSteps.{plain_transfer}
use Rattle.ace_runs.proofs.NeverStuck.Barriers.Halves.{dvm-no-half}
use Rattle.ace_engine.proofs.Pending.{pending-at}
use Rattle.ace_portck.specs.declared.target.Progress.{Progress}
use Rattle.ace_order.specs.Quiet.{is_dvm}
use Rattle.ace_order.proofs.DvmSteps.{dvm-begins, dvm-done, dvm-is-plain, dvm-none}
use Rattle.ace_order.proofs.PlainReads.{named-out}
use Rattle.ace_order.proofs.order.Order.may_respond.Goals as goal
use Rattle.ace_order.proofs.order.Order.may_respond.Goals.{then-is_dvm, else-is_dvm}

pub returns-then-not-x : goal.returns-then-not-x
returns-then-not-x c = λ plan past p k y s there is.
    let h = plan.header in
    let x = c.args.x.now in
    let same : x.transaction ≡ y = ap (λ (v : Progress). v.transaction) is in
    let asked : c.is_dvm.result ≡ is_dvm y = c.is_dvm.ensures ∙ ap is_dvm same in
    let w = pending-at h past p Read k y there in
    elim c.if-is_dvm.branch [
      | else-is_dvm e ↦ let bad : false ≡ true = sym (e.value-is ∙ e.if-is_dvm.false) ∙ c.if-not-x.true in cc
      | then-is_dvm t ↦
          let dvm : is_dvm y ≡ true = sym asked ∙ t.if-is_dvm.true in
          let undone : is_complete past y.port y.chan y.id ≡ false = ap (λ (v : Progress). v.complete) (sym is) ∙ not-true x.complete (sym t.value-is ∙ c.if-not-x.true) in
          let plain = dvm-is-plain h past s.current.legal.accepted p y w dvm in
          let out = subst (λ (v : Transaction). outstanding h past v.port Read v.id ≡ Some v) (sym same) (named-out h past y plain) in
          let half = subst (λ v. is_barrier_half v ≡ false) (sym same) (dvm-no-half y dvm) in
          c.lets_respond.ensures plan past s.current out half ∙ ap (λ v. is_none (least_of system_rules h past (plain_transfer v))) same
          ∙ dvm-begins h past s.current.legal.accepted p y w dvm undone
    ]

pub returns-else-not-x : goal.returns-else-not-x
returns-else-not-x c = λ plan past p k y s there is.
    let h = plan.header in
    let x = c.args.x.now in
    let same : x.transaction ≡ y = ap (λ (v : Progress). v.transaction) is in
    let asked : c.is_dvm.result ≡ is_dvm y = c.is_dvm.ensures ∙ ap is_dvm same in
    elim c.if-is_dvm.branch [
      | else-is_dvm e ↦ c.if-not-x.false ∙ sym (dvm-none h past y (sym asked ∙ e.if-is_dvm.false))
      | then-is_dvm t ↦
          let done : x.complete ≡ true = not-false x.complete (sym t.value-is ∙ c.if-not-x.false) in
          let complete : is_complete past y.port y.chan y.id ≡ true = ap (λ (v : Progress). v.complete) (sym is) ∙ done in
          c.if-not-x.false ∙ sym (dvm-done h past s.current.legal.accepted p y (pending-at h past p Read k y there) (sym asked ∙ t.if-is_dvm.true) complete)
    ]
  where
    not-false : (b : Bool) → not b ≡ false → b ≡ true
    not-false true e = refl
    not-false false e = cc
