use Rattle.std.proofs.Common.{refl}
use Rattle.ace_bin.specs.Records.{event_bytes}
use Rattle.ace_bin.proofs.Given.{record_added, record_lost}
use Rattle.ace_bin.proofs.writer.BinWriter.put.Goals as goal

pub returns-in_err-give_over-clause-bytes : goal.returns-in_err-give_over-clause-bytes
returns-in_err-give_over-clause-bytes g c = λ before bytes so_far.
    record_lost _ before bytes _ c.give_over.new.self (c.in_err-give_over.ensures.bytes before bytes so_far) c.in_err-give_over.ensures.failed

pub returns-clause-bytes : goal.returns-clause-bytes
returns-clause-bytes g c = λ before bytes so_far.
    record_added _ before bytes (event_bytes c.args.event.now) c.give_over.new.self _ (c.give_over.ensures.bytes before bytes so_far) c.in_ok-give_over.ensures.failed refl refl
    c.push_event.ensures
