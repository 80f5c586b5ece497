use Rattle.std.proofs.Common.{◌%◌, length, arith, ap, sym}
use Rattle.std.proofs.lemmas.Grind.{common_steps}
use Rattle.ace_io.proofs.Taken.{piece-taken}
use Rattle.ace_io.proofs.mem_source.MemSourceSource.take.Goals as goal

pub returns-clause-bytes : goal.returns-clause-bytes
returns-clause-bytes c =
    let s = c.self.inside in
    piece-taken c.args.self.now.left s.bytes.items c.args.into.now s.pieces.items c.copy_from_slice.new.self
    s.given (s.takes % length s.pieces.items) c.min-count.result (sym (ap (λ v. v.left) c.self.view_is))
    c.requires c.self.invariant.positive (grind (arith, common_steps)) (grind (arith, common_steps)) (grind (arith, common_steps))
