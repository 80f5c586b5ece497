use Rattle.std.proofs.Common.{refl}
use Rattle.ace_account.specs.Certificate.{cert_text}
use Rattle.ace_account.proofs.listener.put_order.Goals as goal

pub returns-in-Err-clause-put : goal.returns-in-Err-clause-put
returns-in-Err-clause-put g c h past o =
    (cert_text c.in-Ok.cert, (c.in-Ok.cert, c.in-Ok.ensures h past o.made o.accepted o.fits, refl), c.in-Err.ensures.part)
