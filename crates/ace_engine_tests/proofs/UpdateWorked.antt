-- The worked traces are ones for which an engine may stand.
use Rattle.std.proofs.Common.{◌≡◌, ℕ, ◌<◌, true, false, List, [], length, take, refl, inl, arith}
use Rattle.std.proofs.Math.ListN.{get_or}
use Rattle.ace_codes.specs.Reads.{ar_kind_of}
use Rattle.ace_codes.specs.Writes.{aw_kind_of}
use Rattle.ace_event.specs.Bytes.{merged, number_of_bytes}
use Rattle.ace_event.specs.declared.event.Event.{Event}
use Rattle.ace_event.specs.Ports.{IsHeader}
use Rattle.ace_model.specs.Accepted.{rules}
use Rattle.ace_model.specs.Plans.{IsRight}
use Rattle.ace_model.specs.Trace.{Trace}
use Rattle.ace_model.proofs.Rules.Acceptance.{accepted_of}
use Rattle.ace_runs.specs.Bursts.{onto}
use Rattle.ace_runs.specs.Follows.{obeys}
use Rattle.ace_runs.specs.Lean.{stays_lean}
use Rattle.ace_runs.proofs.SoFar.{each-computed}
use Rattle.ace_engine.specs.Engines.{IsLegal, Update, is_given_by, is_of_update}
use Rattle.ace_engine.proofs.Heard.{none-next}
use Rattle.ace_engine_tests.specs.Update.{are_others, evict_events, evict_plan, update_events, update_plan}

pub one-port : IsHeader (record { version = 1; ports = 1; ace = 1 })
one-port = record { version = inl refl; some_port = omega arith; most_ports = omega arith; most_ace = omega arith; most_lite = omega arith; no_other = omega arith }

pub update-right : IsRight update_plan
update-right = record {
  header = one-port;
  version = refl;
  some_way = omega arith;
  most_ways = omega arith;
  few = omega arith;
  operations = (record { port = refl; range = refl; allowed = refl }, (record { port = refl; range = refl; allowed = refl }, tt));
}

pub evict-right : IsRight evict_plan
evict-right = record {
  header = one-port;
  version = refl;
  some_way = omega arith;
  most_ways = omega arith;
  few = omega arith;
  operations = (record { port = refl; range = refl; allowed = refl }, (record { port = refl; range = refl; allowed = refl }, tt));
}

pub update-legal : IsLegal update_plan (onto update_events [])
unfolding ar_kind_of aw_kind_of merged number_of_bytes
update-legal = record {
  right = update-right;
  accepted = accepted_of rules update_plan.header (onto update_events []) refl;
  follows = each-computed (obeys update_plan) (onto update_events []) refl;
  lean = each-computed (stays_lean update_plan) (onto update_events []) refl;
}

pub evict-legal : IsLegal evict_plan (onto evict_events [])
unfolding ar_kind_of aw_kind_of
evict-legal = record {
  right = evict-right;
  accepted = accepted_of rules evict_plan.header (onto evict_events []) refl;
  follows = each-computed (obeys evict_plan) (onto evict_events []) refl;
  lean = each-computed (stays_lean evict_plan) (onto evict_events []) refl;
}

pub other-next : (xs : List Event) (i : ℕ) (d : Event) (past : Trace) → i < length xs → are_others past xs ≡ true → is_given_by Update (onto (take i xs) past) 0 (get_or xs i d) ≡ false
unfolding is_given_by
other-next xs i d past low others = none-next is_of_update xs i d past low others

pub same-for-all : (past : Trace) (p : ℕ) (e : Event) → is_given_by Update past p e ≡ is_given_by Update past 0 e
unfolding is_given_by
same-for-all past p e = refl
