use Rattle.std.proofs.Common.{◌≡◌, ℕ, length, slice_get, Some}
use Rattle.ace_sysck.proofs.Terms.{Inbox, IsEmptyInbox}
use Rattle.ace_sysck.proofs.inboxes.Inboxes.new.Given as goal

abbrev pub invariant-loop-port : goal.invariant-loop-port
invariant-loop-port l = record {
  len : length l.all.items ≡ l.port;
  fresh : (q : ℕ) (b : Inbox) → slice_get l.all.items q ≡ Some b → IsEmptyInbox l.header q b;
}
