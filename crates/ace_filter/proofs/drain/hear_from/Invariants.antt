use Rattle.std.proofs.Common.{◌≡◌, ◌≤◌, length, reverse, take}
use Rattle.ace_model.specs.Plans.{Plan}
use Rattle.ace_engine.specs.Engines.{IsLegal}
use Rattle.ace_filter.specs.Filter.{FilterStands, room_of}
use Rattle.ace_filter.proofs.drain.hear_from.Given as goal

-- it has heard the events so far
abbrev pub invariant-loop-i : goal.invariant-loop-i
invariant-loop-i l = record {
  stands : (plan : Plan) → IsLegal plan (reverse l.events) → length plan.operations ≤ room_of l.initial.filter
      → FilterStands l.initial.filter plan.header (reverse (take l.from l.events)) → FilterStands l.filter plan.header (reverse (take l.i l.events));
  room : room_of l.filter ≡ room_of l.initial.filter;
}
