use Rattle.std.proofs.Common.{◌≡◌, ◌≤◌, ◌<◌, ℕ, nat_eq, length, get_or}
use Rattle.ace_sysck.proofs.Terms.{untold, reached_by}
use Rattle.ace_sysck.proofs.syncs.Syncs.reach_all.Given as goal

abbrev pub invariant-loop-q : goal.invariant-loop-q
invariant-loop-q l = record {
  size : length l.self.ports.items ≡ length l.initial.self.ports.items;
  done : (k : ℕ) → k < l.q → get_or l.self.ports.items k untold ≡ reached_by (get_or l.initial.self.ports.items k untold) l.sender (nat_eq k l.sender);
  rest : (k : ℕ) → l.q ≤ k → get_or l.self.ports.items k untold ≡ get_or l.initial.self.ports.items k untold;
}
