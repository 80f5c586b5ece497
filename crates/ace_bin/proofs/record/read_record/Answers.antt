use Rattle.std.proofs.Common.{◌-◌, length, get_or, take, drop, Ok, arith}
use Rattle.ace_bin.proofs.RecordBytes.{behind_tag, known_in}
use Rattle.ace_bin.proofs.record.read_record.Goals as goal

pub returns-in-Ok-clause-event : goal.returns-in-Ok-clause-event
returns-in-Ok-clause-event c =
    let bytes = c.args.bytes.now in
    let event = c.read_fields.new.event in
    let read = c.in-Ok.ensures in
    known_in c.args.version bytes event c.in-Ok.size (λ i. omega (arith, c.type_inv.bytes i)) c.requires
    (behind_tag c.args.version (get_or bytes 0 0) (take (length bytes - 1) (drop 1 bytes)) event (Ok c.in-Ok.size) read.event read.last read.zero read.none)
