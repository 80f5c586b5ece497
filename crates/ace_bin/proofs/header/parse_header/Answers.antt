use Rattle.std.proofs.Common.{arith, ap, sym, subst, ◌∙◌}
use Rattle.ace_event.specs.Ports.{IsHeader}
use Rattle.ace_bin.specs.Binary.{header_bytes}
use Rattle.ace_bin.proofs.Headers.{header_is}
use Rattle.ace_bin.proofs.header.parse_header.Goals as goal

pub returns-in-Some-clause-some : goal.returns-in-Some-clause-some
returns-in-Some-clause-some c =
    let is = sym c.in-Some.ensures.1 in (
      subst IsHeader is c.in-Some.ensures.0.fits,
      header_is c.args.bytes.now (λ i. omega (arith, c.type_inv.bytes i)) c.requires c.in-Some.ensures.0 ∙ ap header_bytes is,
    )
