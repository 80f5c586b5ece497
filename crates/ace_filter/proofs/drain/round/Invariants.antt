use Rattle.std.proofs.Common.{◌≡◌, ◌<◌, ℕ, true, false, List, length, IsTrue}
use Rattle.ace_event.specs.declared.event.Event.{Event}
use Rattle.ace_fabric.specs.Runs.{continued}
use Rattle.ace_home.specs.Among.{is_enabled_among}
use Rattle.ace_filter.specs.Drain.{are_kept_snoops}
use Rattle.ace_filter.specs.Filter.{FilterStands, is_set, room_of}
use Rattle.ace_filter.proofs.drain.round.Given as goal

abbrev pub invariant-loop-port : goal.invariant-loop-port
invariant-loop-port l = record {
  kept : (events : List Event) × (l.system ≡ continued events l.initial.system)
      × (are_kept_snoops l.initial.system.plan.header l.initial.system.past events ≡ true);
  heard : FilterStands l.filter l.system.plan.header l.system.past;
  room : room_of l.filter ≡ room_of l.initial.filter;
  longer : IsTrue l.moved → length l.initial.system.past < length l.system.past;
  idle : l.moved ≡ false → (l.system ≡ l.initial.system) × (l.filter ≡ l.initial.filter)
      × ((p : ℕ) → p < l.port → is_enabled_among (is_set l.initial.filter) l.initial.system.plan l.initial.system.past p ≡ false);
}
