use Rattle.std.proofs.Common.{◌^◌, ◌≤◌, arith}
use Rattle.std.proofs.Math.Nat.{pow-le-pow_right}
use Rattle.ace_side.proofs.fields.is_plain.Goals as goal

pub pow-requires : goal.pow-requires
pow-requires c =
    let few : c.from.result ≤ 15 = omega (arith, c.requires.1, c.from.ensures) in
    let most : 16 ^ c.from.result ≤ 16 ^ 15 = pow-le-pow_right (omega arith) few in
    omega (arith, most)
