-- Where a DVM transaction is outstanding or a DVM Complete is owed, a port is enabled by one of the steps 10 to 14.
use Rattle.std.proofs.Common.{◌≡◌, ℕ, ◌<◌, true, false, ◌||◌, [], ◌∷◌, None, inl, inr, refl}
use Rattle.std.proofs.lemmas.Bool.{ltb-true, or_cases}
use Rattle.ace_model.specs.declared.transactions.Transaction.{Transaction}
use Rattle.ace_model.specs.Messages.{is_dvm_completion, is_message_part}
use Rattle.ace_model.specs.Plans.{IsRight, Plan}
use Rattle.ace_model.specs.Snoops.{answered}
use Rattle.ace_model.specs.Trace.{Trace}
use Rattle.ace_model.specs.Transactions.{is_complete, is_outstanding, some_issued}
use Rattle.ace_model.proofs.Trace.Growth.{IsIssued}
use Rattle.ace_runs.specs.Follows.{owes_completion}
use Rattle.ace_runs.specs.Steps.{AreSteps, is_enabled_by}
use Rattle.ace_runs.proofs.Turns.{steps-accepted}
use Rattle.ace_runs.proofs.NeverStuck.Steps.EnabledBy.{enabled-by-more}
use Rattle.ace_model.proofs.Trace.IssuedTransactions.{issuer-low}
use Rattle.ace_runs.proofs.NeverStuck.Messages.DvmResponses.{completion-moves}
use Rattle.ace_runs.proofs.NeverStuck.Messages.MessagesMove.{message-moves}
use Rattle.ace_runs.proofs.NeverStuck.Messages.OwedCompletions.{ower-low, owed-enabled}

-- a port of the header is enabled by one of the steps that order
abbrev pub OrderStep : Plan → Trace → Type 0
OrderStep plan past = (q : ℕ) × (q < plan.header.ports) × (is_enabled_by (10 ∷ 11 ∷ 12 ∷ 13 ∷ 14 ∷ []) plan past q ≡ true)

-- Where no AC is unanswered, and a part of a message or a DVM Complete is outstanding that isn't complete.
pub dvm-has-a-step : (plan : Plan) (past : Trace) (x : Transaction) → IsRight plan → AreSteps plan past → ((q : ℕ) → q < plan.header.ports → answered past q ≡ None)
    → IsIssued past x → (is_message_part x || is_dvm_completion x) ≡ true → is_outstanding plan.header past x ≡ true → is_complete past x.port x.chan x.id ≡ false
    → OrderStep plan past
dvm-has-a-step plan past x right s none i dvm is_out undone =
    let h = plan.header in
    let order = 10 ∷ 11 ∷ 12 ∷ 13 ∷ 14 ∷ [] in
    let low = ltb-true x.port h.ports (issuer-low h past x (steps-accepted plan past s) i) in
    elim (or_cases (is_message_part x) (is_dvm_completion x) dvm) [
      | inr completion ↦ (x.port, low, enabled-by-more (12 ∷ []) order plan past x.port refl (completion-moves plan past x s i completion is_out undone))
      | inl part ↦ elim (message-moves plan past x right s none i part is_out undone) [
        | inl own ↦ (x.port, low, enabled-by-more (12 ∷ []) order plan past x.port refl own)
        | inr some ↦ (some.0, some.1, enabled-by-more (11 ∷ []) order plan past some.0 refl some.2)
      ]
    ]

-- Where nothing is outstanding, and a port owes a DVM Complete.
pub owed-has-a-step : (plan : Plan) (past : Trace) (p : ℕ) → AreSteps plan past → some_issued past (is_outstanding plan.header past) ≡ false → owes_completion past p ≡ true
    → OrderStep plan past
owed-has-a-step plan past p s none owes =
    (p, ower-low plan past p s owes, enabled-by-more (14 ∷ []) (10 ∷ 11 ∷ 12 ∷ 13 ∷ 14 ∷ []) plan past p refl (owed-enabled plan past p s none owes))
