-- The worked trace of a barrier that waits is one for which an engine may stand.
use Rattle.std.proofs.Common.{◌≡◌, true, [], ◌++◌, refl, arith}
use Rattle.ace_codes.specs.Reads.{ar_kind_of}
use Rattle.ace_codes.specs.Writes.{aw_kind_of}
use Rattle.ace_event.specs.Bytes.{merged, number_of_bytes}
use Rattle.ace_model.specs.Accepted.{rules}
use Rattle.ace_model.specs.Plans.{IsRight}
use Rattle.ace_model.proofs.Rules.Acceptance.{accepted_of}
use Rattle.ace_runs.specs.Bursts.{onto}
use Rattle.ace_runs.specs.Follows.{obeys}
use Rattle.ace_runs.specs.Lean.{stays_lean}
use Rattle.ace_runs.proofs.SoFar.{each-computed}
use Rattle.ace_engine.specs.Engines.{IsLegal}
use Rattle.ace_engine_tests.specs.Order.{are_others}
use Rattle.ace_engine_tests.specs.Waiting.{waiting_events, waiting_plan, write_done}
use Rattle.ace_engine_tests.proofs.UpdateWorked.{one-port}

pub waiting-right : IsRight waiting_plan
waiting-right = record {
  header = one-port;
  version = refl;
  some_way = omega arith;
  most_ways = omega arith;
  few = omega arith;
  operations = (record { port = refl; range = refl; allowed = refl }, (record { port = refl; range = refl; allowed = refl }, tt));
}

pub waiting-legal : IsLegal waiting_plan (onto (waiting_events ++ write_done) [])
unfolding ar_kind_of aw_kind_of merged number_of_bytes
waiting-legal = record {
  right = waiting-right;
  accepted = accepted_of rules waiting_plan.header (onto (waiting_events ++ write_done) []) refl;
  follows = each-computed (obeys waiting_plan) (onto (waiting_events ++ write_done) []) refl;
  lean = each-computed (stays_lean waiting_plan) (onto (waiting_events ++ write_done) []) refl;
}

-- none of the events that complete the write is one of the engine's own
pub write-others : are_others (onto waiting_events []) write_done ≡ true
unfolding aw_kind_of
write-others = refl
