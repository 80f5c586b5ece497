use Rattle.std.proofs.Common.{◌≡◌, ◌-◌, ◌*◌, true, List, length}
use Rattle.ace_event.specs.declared.event.Event.{Event}
use Rattle.ace_fabric.specs.Runs.{continued}
use Rattle.ace_filter.specs.Drain.{are_kept_snoops}
use Rattle.ace_filter.specs.Filter.{FilterStands, room_of}
use Rattle.ace_filter.proofs.drain.drain_filtered.Given as goal

abbrev pub invariant-loop-system : goal.invariant-loop-system
invariant-loop-system l = record {
  kept : (events : List Event) × (l.system ≡ continued events l.initial.system)
      × (are_kept_snoops l.initial.system.plan.header l.initial.system.past events ≡ true);
  heard : FilterStands l.filter l.system.plan.header l.system.past;
  room : room_of l.filter ≡ room_of l.initial.filter;
}

abbrev pub decreases-loop-system : goal.decreases-loop-system
decreases-loop-system l = length l.system.plan.operations * 256 - length l.system.past
