use Rattle.ace_runs.proofs.Range.EachEvent.{run-writable}
use Rattle.ace_runs.proofs.laws.each_event_is_in_range.Goals as goal

pub returns : goal.returns
returns c = run-writable
