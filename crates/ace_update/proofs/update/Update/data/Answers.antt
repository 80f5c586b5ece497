use Rattle.std.proofs.Common.{◌≡◌, option_and_then, Some, sym, ap, subst, ◌∙◌}
use Rattle.ace_event.specs.declared.event.Channel.TheVariants.{Write}
use Rattle.ace_model.specs.Transactions.{outstanding}
use Rattle.ace_portck.specs.Targets.{data_of_write}
use Rattle.ace_model.specs.Copies.{zero_line}
use Rattle.ace_update.proofs.DueWrites.{write-at}
use Rattle.ace_update.proofs.update.Update.data.Goals as goal

pub returns : goal.returns
returns c = λ plan past p k s there.
    let h = plan.header in
    let x = c.args.write.now in
    let w = write-at h past p k x there in
    let out : outstanding h past x.port Write x.id ≡ Some x = subst (λ q. outstanding h past q Write x.id ≡ Some x) (sym w.port) w.out in
    c.copied.ensures ∙ c.burst.ensures (record { header = h; past = past }) zero_line s.ports ∙ ap (option_and_then (data_of_write past)) out
