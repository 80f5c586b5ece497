-- Where no AC is unanswered and a transaction is outstanding that is complete, a memory update, an Evict or granted, some port is enabled by
-- one of the steps 2 to 4 and 6 to 9.
use Rattle.std.proofs.Common.{◌≡◌, ℕ, Bool, true, false, not, ◌||◌, ◌==◌, nat_lt, List, [], ◌∷◌, Some, None, refl, sym, ap, subst, ◌∙◌, inl, inr}
use Rattle.std.proofs.lemmas.Bool.{cases_Bool, eq-eqb, or_cases}
use Rattle.ace_event.specs.declared.event.Channel.{Channel}
use Rattle.ace_model.specs.declared.transactions.Transaction.{Transaction}
use Rattle.ace_model.specs.Grants.{has_passed_data, is_begun, is_granted}
use Rattle.ace_model.specs.Kinds.{has_write_data}
use Rattle.ace_model.specs.Plans.{Plan}
use Rattle.ace_model.specs.Progress.{evicts, updates_memory}
use Rattle.ace_model.specs.Snoops.{answered}
use Rattle.ace_model.specs.States.{are_snoops_done}
use Rattle.ace_model.specs.Trace.{Trace, implies, is_some_and}
use Rattle.ace_model.specs.Transactions.{is_complete, is_outstanding, is_read, outstanding, transfers, write_kind}
use Rattle.ace_model.specs.Writes.{is_burst_whole}
use Rattle.ace_model.proofs.Grants.Granted.{granted_at, granted_given, granted_write}
use Rattle.ace_model.proofs.Tables.Kinds.{granted_data}
use Rattle.ace_model.proofs.Trace.Growth.{IsIssued, named-issued}
use Rattle.ace_model.proofs.Trace.Issued.{outstanding-name, outstanding-named}
use Rattle.ace_model.proofs.Trace.Looks.{at_name, is_on-addr}
use Rattle.ace_model.proofs.Trace.Outstanding.{outstanding_own}
use Rattle.ace_runs.specs.LineSteps.{takes_dirt}
use Rattle.ace_runs.specs.Steps.{AreSteps, is_enabled_by}
use Rattle.ace_runs.proofs.Turns.{steps-accepted}
use Rattle.ace_runs.proofs.NeverStuck.Complete.{complete-enabled}
use Rattle.ace_runs.proofs.NeverStuck.Steps.EnabledBy.{are_among, enabled-by-more}
use Rattle.ace_runs.proofs.NeverStuck.Updates.EvictsMove.{evict-moves}
use Rattle.ace_runs.proofs.NeverStuck.Transactions.GrantedWritesMove.{granted-write-moves, undone-unwritten}
use Rattle.ace_runs.proofs.NeverStuck.Transactions.PassedDataMove.{passed-data-move}
use Rattle.ace_runs.proofs.NeverStuck.Reads.ReadsMove.{begun-read-moves, unbegun-read-moves}
use Rattle.ace_runs.proofs.NeverStuck.Transactions.UnsentBursts.{unsent-burst-enabled}
use Rattle.ace_runs.proofs.NeverStuck.Updates.UpdatesOrGranted.{HasLine, granted-there, update-or-granted}
use Rattle.ace_model.proofs.Trace.IssuedTransactions.{issuer-low}
use Rattle.ace_runs.proofs.NeverStuck.Transactions.SnoopsMove.{snoops-move}

-- ---- the cases ---------------------------------------------------------------------------------------

-- some port of the header is enabled by one of these steps
abbrev pub SomeEnabledBy : List ℕ → Plan → Trace → Type 0
SomeEnabledBy numbers plan past = (q : ℕ) × (nat_lt q plan.header.ports ≡ true) × (is_enabled_by numbers plan past q ≡ true)

-- the steps for a transaction that doesn't wait for its grant
abbrev pub moving_steps : List ℕ
moving_steps = 2 ∷ 3 ∷ 4 ∷ 6 ∷ 7 ∷ 8 ∷ 9 ∷ []

module _ (plan : Plan) (past : Trace) (s : AreSteps plan past) where
  -- the port of the transaction is enabled
  here : (numbers : List ℕ) (x : Transaction) → IsIssued past x → are_among numbers moving_steps ≡ true → is_enabled_by numbers plan past x.port ≡ true → SomeEnabledBy moving_steps plan past
  here numbers x i among on =
      (x.port, issuer-low plan.header past x (steps-accepted plan past s) i, enabled-by-more numbers moving_steps plan past x.port among on)

  complete-moves : (x : Transaction) → IsIssued past x → outstanding plan.header past x.port x.chan x.id ≡ Some x → is_complete past x.port x.chan x.id ≡ true → SomeEnabledBy moving_steps plan past
  complete-moves x i out done = here (4 ∷ []) x i refl (complete-enabled plan past x.port x.chan x.id x s out done)

  module _ (none : (q : ℕ) → nat_lt q plan.header.ports ≡ true → answered past q ≡ None) where
    snooping-moves : (x : Transaction) → HasLine plan.header past x.addr x → is_begun past x ≡ false → are_snoops_done plan.header past x ≡ false → SomeEnabledBy moving_steps plan past
    snooping-moves x line unbegun undone =
        let q = snoops-move plan past x s none line unbegun undone in (q.0, q.1, enabled-by-more (4 ∷ 6 ∷ []) moving_steps plan past q.0 refl q.2)

    granted-write-case : (x : Transaction) → HasLine plan.header past x.addr x → is_read x.chan ≡ false → is_complete past x.port x.chan x.id ≡ false → SomeEnabledBy moving_steps plan past
    granted-write-case x line writes undone =
        let h = plan.header in
        let k = granted_write x (granted_given h past (steps-accepted plan past s) x.addr x line.holds).kind writes in
        let sends : is_some_and (write_kind x) has_write_data ≡ true = ap (λ o. is_some_and o has_write_data) k.1 ∙ granted_data k.0 k.2 in
        elim (cases_Bool (is_burst_whole past x)) [
          | inr part ↦ here (2 ∷ []) x line.issued refl (unsent-burst-enabled plan past x s line.issued sends part)
          | inl whole ↦ elim (cases_Bool (are_snoops_done h past x)) [
            | inl done ↦ here (9 ∷ []) x line.issued refl (granted-write-moves plan past x.addr x s line writes undone whole done)
            | inr unsnooped ↦
                let unwritten = undone-unwritten plan past x s writes undone in
                snooping-moves x line (rw writes unwritten) unsnooped
          ]
        ]

    granted-read-case : (x : Transaction) → HasLine plan.header past x.addr x → is_read x.chan ≡ true → is_complete past x.port x.chan x.id ≡ false → SomeEnabledBy moving_steps plan past
    granted-read-case x line is undone =
        let h = plan.header in
        elim (cases_Bool (transfers past x.port x.id == 0)) [
          | inr some ↦ here (8 ∷ []) x line.issued refl (begun-read-moves plan past x s line is some undone)
          | inl first ↦ elim (cases_Bool (are_snoops_done h past x)) [
            | inr unsnooped ↦ snooping-moves x line (rw is (ap not first)) unsnooped
            | inl done ↦ elim (cases_Bool (implies (has_passed_data h past x) (takes_dirt h past x))) [
              | inl takes ↦ here (8 ∷ []) x line.issued refl (unbegun-read-moves plan past x s line is first done takes)
              | inr lacks ↦
                  let parts = unless (has_passed_data h past x) (takes_dirt h past x) lacks in
                  here (7 ∷ []) x line.issued refl (passed-data-move plan past x s line is parts.0 parts.1 first)
            ]
          ]
        ]
      where
        unless : (a b : Bool) → implies a b ≡ false → (a ≡ true) × (b ≡ false)
        unless true b f = (refl, f)
        unless false b f = cc

    granted-case : (x : Transaction) → HasLine plan.header past x.addr x → SomeEnabledBy moving_steps plan past
    granted-case x line =
        elim (cases_Bool (is_complete past x.port x.chan x.id)) [
          | inl done ↦ complete-moves x line.issued line.out done
          | inr undone ↦ elim (cases_Bool (is_read x.chan)) [
            | inl is ↦ granted-read-case x line is undone
            | inr writes ↦ granted-write-case x line writes undone
          ]
        ]

    update-case : (x : Transaction) → IsIssued past x → updates_memory x ≡ true → is_outstanding plan.header past x ≡ true → SomeEnabledBy moving_steps plan past
    update-case x i u is_out =
        elim (update-or-granted plan past x s i u is_out) [
          | inl moves ↦ here (2 ∷ 3 ∷ 4 ∷ 7 ∷ []) x i refl moves
          | inr other ↦
              let line = other.1 in
              let addr = is_on-addr other.0 x.addr line.on in
              granted-case other.0 (subst (λ l. HasLine plan.header past l other.0) (sym addr) line)
        ]

    -- Some port is enabled by one of the steps 2 to 4 and 6 to 9.
    pub transaction-moves : (p : ℕ) (c : Channel) (i : ℕ) (x : Transaction) → outstanding plan.header past p c i ≡ Some x
        → (is_complete past p c i || updates_memory x || evicts x || is_granted plan.header past x) ≡ true → SomeEnabledBy moving_steps plan past
    transaction-moves p c i x o one =
        let h = plan.header in
        let a = steps-accepted plan past s in
        let issued = named-issued past p c i x (outstanding-named h past p c i x o) in
        let out = outstanding_own h past p c i x o in
        let is_out : is_outstanding h past x ≡ true = rw out (eq-eqb x.place x.place refl) in
        elim (cases_Bool (is_complete past x.port x.chan x.id)) [
          | inl done ↦ complete-moves x issued out done
          | inr undone ↦ elim (or_cases (is_complete past p c i || updates_memory x || evicts x) (is_granted h past x) one) [
            | inr has ↦ granted-case x (granted-there h past x.addr x a (granted_at h past a p c i x o has))
            | inl rest ↦ elim (or_cases (is_complete past p c i || updates_memory x) (evicts x) rest) [
              | inr e ↦ here (3 ∷ []) x issued refl (evict-moves plan past x s issued e is_out undone)
              | inl other ↦ elim (or_cases (is_complete past p c i) (updates_memory x) other) [
                | inr u ↦ update-case x issued u is_out
                | inl done ↦
                    let name = outstanding-name h past p c i x o in
                    let done_own : is_complete past x.port x.chan x.id ≡ true = at_name (is_complete past) x p c i name ∙ done in cc
              ]
            ]
          ]
        ]
