use Rattle.ace_writer.proofs.Digits.{sixteen_lanes}
use Rattle.ace_writer.proofs.fields.hex_16.Goals as goal

pub returns : goal.returns
returns c = rw c.to_be_bytes-bytes.ensures (sixteen_lanes c.args.n)
