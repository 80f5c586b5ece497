use Rattle.ace_account.proofs.Heard.{ordered_next}
use Rattle.ace_account.proofs.listener.hear_order.Goals as goal

pub returns : goal.returns
returns c h past tell o accepted few =
    ordered_next c.hear.result _ _ h past _ o c.every_event_fits.ensures accepted (c.hear.ensures h past tell o.made (record { accepted = accepted; few = few }))
