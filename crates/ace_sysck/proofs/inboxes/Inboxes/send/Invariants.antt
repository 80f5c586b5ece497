use Rattle.std.proofs.Common.{◌≡◌, ◌≤◌, ◌<◌, ℕ, length, slice_get, Some}
use Rattle.ace_sysck.proofs.Terms.{Inbox, Receives, sent_to, sent_list}
use Rattle.ace_sysck.proofs.inboxes.Inboxes.send.Given as goal

abbrev pub invariant-loop-q : goal.invariant-loop-q
invariant-loop-q l = record {
  size : length l.self.ports.items ≡ length l.initial.self.ports.items;
  done : (k : ℕ) (b : Inbox) → k < l.q → slice_get l.initial.self.ports.items k ≡ Some b
      → (c : Inbox) × (slice_get l.self.ports.items k ≡ Some c) × Receives (sent_to k l.sender (sent_list l.sent)) b c;
  rest : (k : ℕ) → l.q ≤ k → slice_get l.self.ports.items k ≡ slice_get l.initial.self.ports.items k;
}
