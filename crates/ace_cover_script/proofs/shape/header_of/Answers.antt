use Rattle.std.proofs.Common.{◌+◌, sym, subst}
use Rattle.ace_event.specs.Ports.{IsHeader}
use Rattle.ace_cover_script.proofs.Headers.{header_right}
use Rattle.ace_cover_script.proofs.shape.header_of.Goals as goal

pub returns-clause-right : goal.returns-clause-right
returns-clause-right c =
    let shape = c.args.shape in
    subst (λ bits. IsHeader (record { version = 1; ports = shape.aces + shape.lites; ace = bits })) (sym c.bits_of.ensures) (header_right shape c.requires)
