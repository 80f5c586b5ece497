-- The worked traces are ones for which an engine may stand.
use Rattle.std.proofs.Common.{◌++◌, [], refl, inl, arith}
use Rattle.ace_codes.specs.Reads.{ar_kind_of}
use Rattle.ace_codes.specs.Snoops.{ac_kind_of}
use Rattle.ace_codes.specs.Writes.{aw_kind_of}
use Rattle.ace_event.specs.Bytes.{merged, number_of_bytes}
use Rattle.ace_event.specs.Ports.{IsHeader}
use Rattle.ace_model.specs.Accepted.{rules}
use Rattle.ace_model.specs.Plans.{IsRight}
use Rattle.ace_model.proofs.Rules.Acceptance.{accepted_of}
use Rattle.ace_runs.specs.Bursts.{onto}
use Rattle.ace_runs.specs.Follows.{obeys}
use Rattle.ace_runs.specs.Lean.{stays_lean}
use Rattle.ace_runs.proofs.SoFar.{each-computed}
use Rattle.ace_engine.specs.Engines.{IsLegal}
use Rattle.ace_home_tests.specs.Worked.{cleaning_plan, fetched_events, filled_events, granted_events, passed_events, reading_events, reading_plan, shared_events, sharing_plan, writing_plan, written_events}

pub two-ports : IsHeader (record { version = 1; ports = 2; ace = 3 })
two-ports = record { version = inl refl; some_port = omega arith; most_ports = omega arith; most_ace = omega arith; most_lite = omega arith; no_other = omega arith }

pub reading-right : IsRight reading_plan
reading-right = record {
  header = two-ports;
  version = refl;
  some_way = omega arith;
  most_ways = omega arith;
  few = omega arith;
  operations = (record { port = refl; range = refl; allowed = refl }, tt);
}

pub sharing-right : IsRight sharing_plan
sharing-right = record {
  header = two-ports;
  version = refl;
  some_way = omega arith;
  most_ways = omega arith;
  few = omega arith;
  operations = (record { port = refl; range = refl; allowed = refl }, (record { port = refl; range = refl; allowed = refl }, tt));
}

pub cleaning-right : IsRight cleaning_plan
cleaning-right = record {
  header = two-ports;
  version = refl;
  some_way = omega arith;
  most_ways = omega arith;
  few = omega arith;
  operations = (record { port = refl; range = refl; allowed = refl }, (record { port = refl; range = refl; allowed = refl }, tt));
}

pub writing-right : IsRight writing_plan
writing-right = record {
  header = two-ports;
  version = refl;
  some_way = omega arith;
  most_ways = omega arith;
  few = omega arith;
  operations = (record { port = refl; range = refl; allowed = refl }, tt);
}

pub reading-legal : IsLegal reading_plan (onto reading_events [])
unfolding ac_kind_of ar_kind_of aw_kind_of
reading-legal = record {
  right = reading-right;
  accepted = accepted_of rules reading_plan.header (onto reading_events []) refl;
  follows = each-computed (obeys reading_plan) (onto reading_events []) refl;
  lean = each-computed (stays_lean reading_plan) (onto reading_events []) refl;
}

pub granted-legal : IsLegal reading_plan (onto granted_events [])
unfolding ac_kind_of ar_kind_of aw_kind_of
granted-legal = record {
  right = reading-right;
  accepted = accepted_of rules reading_plan.header (onto granted_events []) refl;
  follows = each-computed (obeys reading_plan) (onto granted_events []) refl;
  lean = each-computed (stays_lean reading_plan) (onto granted_events []) refl;
}

pub shared-legal : IsLegal sharing_plan (onto (fetched_events ++ shared_events) [])
unfolding ac_kind_of ar_kind_of aw_kind_of
shared-legal = record {
  right = sharing-right;
  accepted = accepted_of rules sharing_plan.header (onto (fetched_events ++ shared_events) []) refl;
  follows = each-computed (obeys sharing_plan) (onto (fetched_events ++ shared_events) []) refl;
  lean = each-computed (stays_lean sharing_plan) (onto (fetched_events ++ shared_events) []) refl;
}

pub passed-legal : IsLegal cleaning_plan (onto (filled_events ++ passed_events) [])
unfolding ac_kind_of ar_kind_of aw_kind_of merged number_of_bytes
passed-legal = record {
  right = cleaning-right;
  accepted = accepted_of rules cleaning_plan.header (onto (filled_events ++ passed_events) []) refl;
  follows = each-computed (obeys cleaning_plan) (onto (filled_events ++ passed_events) []) refl;
  lean = each-computed (stays_lean cleaning_plan) (onto (filled_events ++ passed_events) []) refl;
}

pub written-legal : IsLegal writing_plan (onto written_events [])
unfolding ac_kind_of ar_kind_of aw_kind_of merged number_of_bytes
written-legal = record {
  right = writing-right;
  accepted = accepted_of rules writing_plan.header (onto written_events []) refl;
  follows = each-computed (obeys writing_plan) (onto written_events []) refl;
  lean = each-computed (stays_lean writing_plan) (onto written_events []) refl;
}
