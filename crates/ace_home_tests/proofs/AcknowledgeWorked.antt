-- The worked trace of a write that isn't acknowledged is one for which an engine may stand.
use Rattle.std.proofs.Common.{◌++◌, [], refl, arith}
use Rattle.ace_codes.specs.Reads.{ar_kind_of}
use Rattle.ace_codes.specs.Snoops.{ac_kind_of}
use Rattle.ace_codes.specs.Writes.{aw_kind_of}
use Rattle.ace_event.specs.Bytes.{merged, number_of_bytes}
use Rattle.ace_model.specs.Accepted.{rules}
use Rattle.ace_model.specs.Plans.{IsRight}
use Rattle.ace_model.proofs.Rules.Acceptance.{accepted_of}
use Rattle.ace_runs.specs.Bursts.{onto}
use Rattle.ace_runs.specs.Follows.{obeys}
use Rattle.ace_runs.specs.Lean.{stays_lean}
use Rattle.ace_runs.proofs.SoFar.{each-computed}
use Rattle.ace_engine.specs.Engines.{IsLegal}
use Rattle.ace_home_tests.specs.Acknowledge.{acknowledge_plan, acknowledging_events, unacknowledged_events}
use Rattle.ace_home_tests.specs.Worked.{filled_events}
use Rattle.ace_home_tests.proofs.Worked.{two-ports}

pub acknowledge-right : IsRight acknowledge_plan
acknowledge-right = record {
  header = two-ports;
  version = refl;
  some_way = omega arith;
  most_ways = omega arith;
  few = omega arith;
  operations = (record { port = refl; range = refl; allowed = refl }, (record { port = refl; range = refl; allowed = refl }, (record { port = refl; range = refl; allowed = refl }, tt)));
}

pub acknowledge-legal : IsLegal acknowledge_plan (onto ((filled_events ++ unacknowledged_events) ++ acknowledging_events) [])
unfolding ac_kind_of ar_kind_of aw_kind_of merged number_of_bytes
acknowledge-legal = record {
  right = acknowledge-right;
  accepted = accepted_of rules acknowledge_plan.header (onto ((filled_events ++ unacknowledged_events) ++ acknowledging_events) []) refl;
  follows = each-computed (obeys acknowledge_plan) (onto ((filled_events ++ unacknowledged_events) ++ acknowledging_events) []) refl;
  lean = each-computed (stays_lean acknowledge_plan) (onto ((filled_events ++ unacknowledged_events) ++ acknowledging_events) []) refl;
}
