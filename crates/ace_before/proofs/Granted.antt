-- The granted transaction of a line is the outstanding one of its name.
use Rattle.std.proofs.Common.{◌≡◌, ℕ, Option, Some, option_map, ap, sym, ◌∙◌}
use Rattle.ace_event.specs.declared.header.Header.{Header}
use Rattle.ace_model.proofs.Holders.Law.{accepted_holds}
use Rattle.ace_model.specs.Accepted.{IsAccepted}
use Rattle.ace_model.specs.Grants.{granted}
use Rattle.ace_model.specs.Trace.{Trace}
use Rattle.ace_model.specs.Transactions.{outstanding}
use Rattle.ace_model.specs.declared.transactions.Transaction.{Transaction}
use Rattle.ace_portck.specs.Targets.{progress_of}
use Rattle.ace_portck.specs.declared.target.Progress.{Progress}

pub granted_progress : (h : Header) (past : Trace) (l : ℕ) (x : Transaction) (o : Option Progress) → IsAccepted h past → granted h past l ≡ Some x
    → o ≡ option_map (progress_of h past) (outstanding h past x.port x.chan x.id) → o ≡ option_map (progress_of h past) (granted h past l)
granted_progress h past l x o a g is =
    is ∙ ap (option_map (progress_of h past)) (((accepted_holds h past a).grants l x g).0 ∙ sym g)
