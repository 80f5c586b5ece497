use Rattle.std.proofs.Common.{arith, refl, ◌<◌}
use Rattle.ace_bin.specs.Window.{held}
use Rattle.ace_bin.specs.Reading.{most_events}
use Rattle.ace_bin.proofs.RecordBytes.{record_size}
use Rattle.ace_bin.proofs.Taken.{malformed}
use Rattle.ace_bin.proofs.finding.read_event.Goals as goal

pub returns-in-Ok-Record-clause-size : goal.returns-in-Ok-Record-clause-size
returns-in-Ok-Record-clause-size g c =
    let found = rw c.in-Ok-Record.field-0-is at c.in-Ok-Record.ensures.front in
    record_size c.args.version (held c.find_record.new.window) c.find_record.new.event c.in-Ok-Record.size found

pub returns-in-Ok-Malformed-clause-next : goal.returns-in-Ok-Malformed-clause-next
returns-in-Ok-Malformed-clause-next g c =
    let bad = rw c.in-Ok-Malformed.field-0-is at c.in-Ok-Malformed.ensures.front in
    let few : c.args.count < most_events = omega arith in
    (few, refl, malformed c.args.version _ _ (held c.find_record.new.window) c.in-Ok-Malformed.reason c.in-Ok-Malformed.ensures.kept bad.0 bad.1)
