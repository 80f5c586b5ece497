use Rattle.std.proofs.Common.{arith}
use Rattle.ace_portck.proofs.Parts.{part_data}
use Rattle.ace_portck.proofs.write_data.Part.data.Goals as goal

pub returns : goal.returns
returns c = λ bs four s.
    let a = c.from-3.ensures in
    let b = c.from-4.ensures in
    let d = c.from.ensures in
    let e = c.from-2.ensures in
    part_data bs c.args.self.now _ four s (omega (arith, a, b, d, e))
