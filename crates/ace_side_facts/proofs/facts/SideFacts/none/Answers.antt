use Rattle.std.proofs.Common.{refl}
use Rattle.ace_side_facts.proofs.facts.SideFacts.none.Goals as goal

pub returns-clause-nothing : goal.returns-clause-nothing
returns-clause-nothing c = record {
  unit = c.new.ensures.unit;
  names = λ port. rw c.new.ensures.names;
  reals = λ line. rw c.new.ensures.reals;
  notes = λ event. rw c.new.ensures.notes;
  times = λ event. rw c.none.ensures.events;
  end = refl;
}
