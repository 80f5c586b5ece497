-- A part of a DVM message that is complete was forwarded to every other ACE port, and each has answered it.
use Rattle.std.proofs.Common.{◌≡◌, ◌≢◌, ℕ, true, false, ◌==◌, take}
use Rattle.std.specs.Option.{option_to_list}
use Rattle.ace_event.specs.declared.header.Header.{Header}
use Rattle.ace_model.specs.declared.transactions.Transaction.{Transaction}
use Rattle.ace_model.specs.Accepted.{IsAccepted}
use Rattle.ace_model.specs.Messages.{answered_parts, forwarded, has_answered, has_part, is_message_part, parts_among}
use Rattle.ace_model.specs.Progress.{is_completed}
use Rattle.ace_model.specs.Snoops.{answers}
use Rattle.ace_model.specs.Trace.{Trace}
use Rattle.ace_model.specs.Transactions.{is_ace, is_outstanding}
use Rattle.ace_model.proofs.Dvm.Answered.{complete_part-answered}
use Rattle.ace_model.proofs.General.Lists.{start-any, start-flat_map, start-take}
use Rattle.ace_model.proofs.Outstanding.Waiting.{ended_complete}
use Rattle.ace_model.proofs.Trace.Growth.{IsIssued}

-- what a port has answered was forwarded to it
pub answered-forwarded : (past : Trace) (x : Transaction) (q : ℕ) → has_answered past x q ≡ true → has_part (parts_among (forwarded past q)) x ≡ true
answered-forwarded past x q a =
    start-any (λ y. y.place == x.place) (answered_parts past q) (parts_among (forwarded past q))
    (start-flat_map option_to_list (take (answers past q) (forwarded past q)) (forwarded past q) (start-take (answers past q) (forwarded past q))) a

pub completed-answered : (h : Header) (past : Trace) (x : Transaction) (q : ℕ) → IsAccepted h past → IsIssued past x → is_message_part x ≡ true → is_completed past x ≡ true
    → is_ace h q ≡ true → q ≢ x.port → has_answered past x q ≡ true
completed-answered h past x q a i part complete ace other = complete_part-answered h x q part ace other past complete a i.there

-- one that is no longer outstanding is complete
pub ended-answered : (h : Header) (past : Trace) (x : Transaction) (q : ℕ) → IsAccepted h past → IsIssued past x → is_message_part x ≡ true → is_outstanding h past x ≡ false
    → is_ace h q ≡ true → q ≢ x.port → has_answered past x q ≡ true
ended-answered h past x q a i part out ace other = completed-answered h past x q a i part (ended_complete h past x a i out) ace other
