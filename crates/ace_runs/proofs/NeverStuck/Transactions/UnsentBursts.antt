-- The port of a write with data whose burst isn't whole is enabled by step 2.
use Rattle.std.proofs.Common.{◌≡◌, true, false, [], ◌∷◌, refl}
use Rattle.std.proofs.lemmas.Bool.{or_left}
use Rattle.ace_model.specs.declared.transactions.Transaction.{Transaction}
use Rattle.ace_model.specs.Kinds.{has_write_data}
use Rattle.ace_model.specs.Plans.{Plan}
use Rattle.ace_model.specs.Trace.{Trace, is_some_and}
use Rattle.ace_model.specs.Transactions.{write_kind}
use Rattle.ace_model.specs.Writes.{is_burst_whole}
use Rattle.ace_model.proofs.Trace.Growth.{IsIssued}
use Rattle.ace_runs.specs.MasterSteps.{may_send}
use Rattle.ace_runs.specs.Steps.{AreSteps, is_enabled_by}
use Rattle.ace_runs.proofs.NeverStuck.Updates.UpdatesMove.{may-send}

pub unsent-burst-enabled : (plan : Plan) (past : Trace) (x : Transaction) → AreSteps plan past → IsIssued past x
    → is_some_and (write_kind x) has_write_data ≡ true → is_burst_whole past x ≡ false → is_enabled_by (2 ∷ []) plan past x.port ≡ true
unsent-burst-enabled plan past x s i sends part =
    or_left (may_send plan.header past x.port) _ (may-send plan past x.port x s i refl sends part)
