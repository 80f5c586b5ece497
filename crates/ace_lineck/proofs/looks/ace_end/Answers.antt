use Rattle.std.proofs.Common.{◌≡◌, ◌<◌, ◌^◌, false, ◌&&◌, ◌==◌, nat_lt, refl, ap, ◌∙◌, arith}
use Rattle.std.specs.Int.{bit_at}
use Rattle.std.proofs.lemmas.Nat.{leading_length}
use Rattle.std.proofs.lemmas.Nat.Bits.{bit_at_above}
use Rattle.std.proofs.Math.Bool.{and-false}
use Rattle.ace_lineck.proofs.looks.ace_end.Goals as goal

pub returns : goal.returns
returns c = λ q high.
    let h = c.args.header.now in
    let fits : h.ace < 2 ^ 32 = assumption c.well_formed in
    let m = leading_length 32 h.ace fits in
    let all = m.1 in
    let none = bit_at_above h.ace m.0 q m.2 (omega (arith, all, high)) in
    let off : (bit_at h.ace q == 1) ≡ false = rw none refl in
    ap (λ b. nat_lt q h.ports && b) off ∙ and-false (nat_lt q h.ports)
