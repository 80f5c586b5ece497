use Rattle.std.proofs.Common.{◌≡◌, ◌<◌, false, length, Some, sym, ap, ◌∙◌}
use Rattle.std.specs.List.{slice_get}
use Rattle.std.proofs.Math.ListN.{get_or}
use Rattle.std.proofs.lemmas.Option.{slice_get-get_or}
use Rattle.ace_event.specs.declared.event.Channel.TheVariants.{Read}
use Rattle.ace_model.specs.declared.transactions.Transaction.{Transaction}
use Rattle.ace_runs.proofs.NeverStuck.Phases.CalmEvents.{segment-of-port}
use Rattle.ace_master_state.specs.Sought.{is_sought}
use Rattle.ace_master_state.proofs.Found.{found-before, found-now}
use Rattle.ace_master_state.proofs.kept.Kept.has.Goals as goal
use Rattle.ace_master_state.proofs.kept.Kept.has.Goals.{then-is_sought, else-is_sought}

pub loop-x-preserved : goal.loop-x-preserved
loop-x-preserved c = λ plan past p k.
    let xs = c.issued-x-items.result.now in
    let i = c.loop-x.x-index in
    let d : Transaction = record { place = 0; port = 0; chan = Read; id = 0; addr = 0; snoop = 0; dom = 0; bar = 0; lock = false } in
    let test = is_sought plan.header past c.args.sought in
    let low : i < length xs = c.loop-x-test.true in
    let at : slice_get xs i ≡ Some (get_or xs i d) = slice_get-get_or xs i d low in
    let of = segment-of-port past p i (get_or xs i d) (ap (λ l. slice_get l i) (sym (c.issued-x-items.ensures past p k.segment)) ∙ at) in
    let result = c.is_sought.ensures plan past p k of.port in
    elim c.if-is_sought.branch [
      | then-is_sought w ↦ w.found-is ∙ found-now test xs i d low (sym result ∙ w.if-is_sought.true)
      | else-is_sought w ↦ w.found-is ∙ c.loop-x.invariant plan past p k ∙ found-before test xs i d low (sym result ∙ w.if-is_sought.false)
    ]
