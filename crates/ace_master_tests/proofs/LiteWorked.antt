-- The worked traces are ones for which the master of an ACE-Lite port may stand.
use Rattle.std.proofs.Common.{◌≡◌, ℕ, true, false, ◌++◌, [], refl, inl, arith}
use Rattle.std.proofs.Math.Bool.{and-false}
use Rattle.ace_codes.specs.Reads.{ar_kind_of}
use Rattle.ace_event.specs.declared.event.Event.{Event}
use Rattle.ace_event.specs.Ports.{IsHeader}
use Rattle.ace_model.specs.Accepted.{rules}
use Rattle.ace_model.specs.declared.plans.Op.TheVariants as op
use Rattle.ace_model.specs.Plans.{IsRight}
use Rattle.ace_model.specs.Trace.{Trace}
use Rattle.ace_model.proofs.Rules.Acceptance.{accepted_of}
use Rattle.ace_runs.specs.Bursts.{onto}
use Rattle.ace_runs.specs.Follows.{obeys}
use Rattle.ace_runs.specs.Lean.{stays_lean}
use Rattle.ace_runs.specs.Segments.{is_at_port}
use Rattle.ace_runs.proofs.SoFar.{each-computed}
use Rattle.ace_engine.specs.Engines.{IsLegal, Master, is_given_by, is_of_interconnect}
use Rattle.ace_master_tests.specs.LiteWorked.{asked_events, cleaned_events, plan_of}

one-port : IsHeader (record { version = 1; ports = 1; ace = 0 })
one-port = record { version = inl refl; some_port = omega arith; most_ports = omega arith; most_ace = omega arith; most_lite = omega arith; no_other = omega arith }

cleaning-right : IsRight (plan_of (op.Cs 64))
cleaning-right = record {
  header = one-port;
  version = refl;
  some_way = omega arith;
  most_ways = omega arith;
  few = omega arith;
  operations = (record { port = refl; range = refl; allowed = refl }, tt);
}

pub cleaned-legal : IsLegal (plan_of (op.Cs 64)) (onto (asked_events ++ cleaned_events) [])
unfolding ar_kind_of
cleaned-legal = record {
  right = cleaning-right;
  accepted = accepted_of rules (plan_of (op.Cs 64)).header (onto (asked_events ++ cleaned_events) []) refl;
  follows = each-computed (obeys (plan_of (op.Cs 64))) (onto (asked_events ++ cleaned_events) []) refl;
  lean = each-computed (stays_lean (plan_of (op.Cs 64))) (onto (asked_events ++ cleaned_events) []) refl;
}

-- what the interconnect gives is no event of a master
pub not-by-master : (past : Trace) (p : ℕ) (e : Event) → is_of_interconnect e ≡ true → is_given_by Master past p e ≡ false
unfolding is_given_by
not-by-master past p e t = rw t (and-false (is_at_port p e))
