-- The worked traces are ones for which an engine may stand.
use Rattle.std.proofs.Common.{◌≡◌, ℕ, ◌<◌, true, false, List, [], ◌++◌, length, take, refl, inl, arith}
use Rattle.std.proofs.Math.ListN.{get_or}
use Rattle.ace_codes.specs.Reads.{ar_kind_of}
use Rattle.ace_codes.specs.Snoops.{ac_kind_of}
use Rattle.ace_codes.specs.Writes.{aw_kind_of}
use Rattle.ace_event.specs.declared.event.Event.{Event}
use Rattle.ace_event.specs.Ports.{IsHeader}
use Rattle.ace_model.specs.Accepted.{rules}
use Rattle.ace_model.specs.declared.plans.Op.TheVariants as op
use Rattle.ace_model.specs.Plans.{IsRight}
use Rattle.ace_model.specs.Trace.{Trace}
use Rattle.ace_model.proofs.Rules.Acceptance.{accepted_of}
use Rattle.ace_runs.specs.Bursts.{onto}
use Rattle.ace_runs.specs.Follows.{obeys}
use Rattle.ace_runs.specs.Lean.{stays_lean}
use Rattle.ace_runs.proofs.SoFar.{each-computed}
use Rattle.ace_engine.specs.Engines.{IsLegal, Order, is_given_by, is_of_order}
use Rattle.ace_engine.proofs.Heard.{none-next}
use Rattle.ace_engine_tests.specs.Order.{are_others, barrier_events, completion_done, message_events, plan_of, sync_answered, sync_done, sync_issued}

two-ports : IsHeader (record { version = 1; ports = 2; ace = 3 })
two-ports = record { version = inl refl; some_port = omega arith; most_ports = omega arith; most_ace = omega arith; most_lite = omega arith; no_other = omega arith }

pub barrier-right : IsRight (plan_of op.Sb)
barrier-right = record {
  header = two-ports;
  version = refl;
  some_way = omega arith;
  most_ways = omega arith;
  few = omega arith;
  operations = (record { port = refl; range = refl; allowed = refl }, tt);
}

pub message-right : IsRight (plan_of (op.Dvm2 4097 305419896))
message-right = record {
  header = two-ports;
  version = refl;
  some_way = omega arith;
  most_ways = omega arith;
  few = omega arith;
  operations = (record { port = refl; range = refl; allowed = refl }, tt);
}

pub sync-right : IsRight (plan_of (op.Sync 49152))
sync-right = record {
  header = two-ports;
  version = refl;
  some_way = omega arith;
  most_ways = omega arith;
  few = omega arith;
  operations = (record { port = refl; range = refl; allowed = refl }, tt);
}

pub barrier-legal : IsLegal (plan_of op.Sb) (onto barrier_events [])
unfolding ar_kind_of aw_kind_of
barrier-legal = record {
  right = barrier-right;
  accepted = accepted_of rules (plan_of op.Sb).header (onto barrier_events []) refl;
  follows = each-computed (obeys (plan_of op.Sb)) (onto barrier_events []) refl;
  lean = each-computed (stays_lean (plan_of op.Sb)) (onto barrier_events []) refl;
}

pub message-legal : IsLegal (plan_of (op.Dvm2 4097 305419896)) (onto message_events [])
unfolding ar_kind_of
message-legal = record {
  right = message-right;
  accepted = accepted_of rules (plan_of (op.Dvm2 4097 305419896)).header (onto message_events []) refl;
  follows = each-computed (obeys (plan_of (op.Dvm2 4097 305419896))) (onto message_events []) refl;
  lean = each-computed (stays_lean (plan_of (op.Dvm2 4097 305419896))) (onto message_events []) refl;
}

pub sync-legal : IsLegal (plan_of (op.Sync 49152)) (onto (sync_issued ++ sync_answered ++ sync_done ++ completion_done) [])
unfolding ar_kind_of ac_kind_of
sync-legal = record {
  right = sync-right;
  accepted = accepted_of rules (plan_of (op.Sync 49152)).header (onto (sync_issued ++ sync_answered ++ sync_done ++ completion_done) []) refl;
  follows = each-computed (obeys (plan_of (op.Sync 49152))) (onto (sync_issued ++ sync_answered ++ sync_done ++ completion_done) []) refl;
  lean = each-computed (stays_lean (plan_of (op.Sync 49152))) (onto (sync_issued ++ sync_answered ++ sync_done ++ completion_done) []) refl;
}

pub other-next : (xs : List Event) (i : ℕ) (d : Event) (past : Trace) → i < length xs → are_others past xs ≡ true → is_given_by Order (onto (take i xs) past) 0 (get_or xs i d) ≡ false
unfolding is_given_by
other-next xs i d past low others = none-next is_of_order xs i d past low others

pub same-for-all : (past : Trace) (p : ℕ) (e : Event) → is_given_by Order past p e ≡ is_given_by Order past 0 e
unfolding is_given_by
same-for-all past p e = refl
