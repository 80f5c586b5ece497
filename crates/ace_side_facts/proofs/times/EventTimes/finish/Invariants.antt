use Rattle.std.proofs.Common.{◌≡◌, ◌-◌, ◌<◌, ◌≤◌, ℕ, None, length, get_or}
use Rattle.ace_side_facts.proofs.times.EventTimes.finish.Given as goal

abbrev pub invariant-loop-self : goal.invariant-loop-self
invariant-loop-self l = record {
  events : l.self.events ≡ l.initial.self.events;
  last : l.self.last ≡ l.initial.self.last;
  grows : length l.initial.self.times.items ≤ length l.self.times.items;
  kept : (k : ℕ) → k < length l.initial.self.times.items
      → get_or l.self.times.items k None ≡ get_or l.initial.self.times.items k None;
  filled : (k : ℕ) → length l.initial.self.times.items ≤ k → k < length l.self.times.items
      → get_or l.self.times.items k None ≡ l.initial.self.last;
}

abbrev pub decreases-loop-self : goal.decreases-loop-self
decreases-loop-self l = length l.self.events.items - length l.self.times.items
