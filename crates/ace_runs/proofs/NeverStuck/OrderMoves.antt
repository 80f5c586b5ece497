-- Where no AC is unanswered, no outstanding transaction is complete, a memory update, an Evict or granted, and none waits for its grant, what is
-- outstanding is a barrier or a DVM transaction. Where one is, or a DVM Complete is owed, a port is enabled by one of the steps 10 to 14.
use Rattle.std.proofs.Common.{◌≡◌, ◌⊎◌, ℕ, zero, suc, ◌<◌, Bool, true, false, not, ◌&&◌, ◌||◌, [], ◌∷◌, None, inl, inr, refl, sym, ap, ◌∙◌}
use Rattle.std.specs.List.{list_any}
use Rattle.std.proofs.lemmas.Bool.{and_from, cases_Bool, false_from_ne_true, ltb-true, or_cases, or_left, or_right}
use Rattle.ace_codes.specs.declared.kind.AwKind.{AwKind}
use Rattle.ace_codes.specs.declared.kind.AwKind.TheVariants as write
use Rattle.ace_event.specs.declared.header.Header.{Header}
use Rattle.ace_model.specs.declared.transactions.Transaction.{Transaction}
use Rattle.ace_model.specs.Accepted.{IsAccepted}
use Rattle.ace_model.specs.Grants.{has_grant, is_granted, ports_below}
use Rattle.ace_model.specs.Kinds.{is_evict, is_granted_write, is_line_read, is_line_write, is_update}
use Rattle.ace_model.specs.Plans.{IsRight, Plan}
use Rattle.ace_model.specs.Progress.{evicts, is_completed, updates_memory}
use Rattle.ace_model.specs.Snoops.{answered}
use Rattle.ace_model.specs.Trace.{Trace, is_some_and}
use Rattle.ace_model.specs.Transactions.{is_complete, is_line, is_outstanding, read_kind, some_issued, takes_grant, write_kind}
use Rattle.ace_model.proofs.GrantLooks.Had.{granted_had}
use Rattle.ace_model.proofs.Grants.Granted.{granted_is}
use Rattle.ace_model.proofs.General.Options.{is_some_and-is}
use Rattle.ace_model.proofs.Outstanding.Names.{complete_by_name}
use Rattle.ace_model.proofs.Trace.Growth.{IsIssued, some_issued-found, some_issued-is}
use Rattle.ace_model.proofs.Trace.Issued.{outstanding-named}
use Rattle.ace_model.proofs.Trace.LineOnce.{outstanding_is}
use Rattle.ace_runs.specs.Follows.{owes_completion}
use Rattle.ace_runs.specs.LineSteps.{waits}
use Rattle.ace_runs.specs.Steps.{AreSteps}
use Rattle.ace_runs.proofs.Turns.{steps-accepted}
use Rattle.ace_runs.proofs.NeverStuck.Barriers.Answered.{barrier-moves}
use Rattle.ace_runs.proofs.NeverStuck.Steps.EnabledBy.{enabled-by-more}
use Rattle.ace_model.proofs.Trace.IssuedTransactions.{issuer-low}
use Rattle.ace_runs.proofs.NeverStuck.Messages.DvmSteps.{OrderStep, dvm-has-a-step, owed-has-a-step}
use Rattle.ace_runs.proofs.NeverStuck.Messages.Sorts.{transaction-sort}

-- ---- line transactions -------------------------------------------------------------------------------

write-served : (k : AwKind) → is_line_write k ≡ true → (is_granted_write k || is_update k || is_evict k) ≡ true
write-served write.Barrier line = cc
write-served k line = refl

-- a line transaction is of a kind that is granted, or a memory update or an Evict
line-served : (x : Transaction) → is_line x ≡ true → (takes_grant x ≡ true) ⊎ ((updates_memory x || evicts x) ≡ true)
line-served x line =
    elim (or_cases (is_some_and (read_kind x) is_line_read) (is_some_and (write_kind x) is_line_write) line) [
      | inl reads ↦ inl (or_left (is_some_and (read_kind x) is_line_read) (is_some_and (write_kind x) is_granted_write) reads)
      | inr writes ↦
          let k = is_some_and-is (write_kind x) is_line_write writes in
          elim (or_cases (is_granted_write k.0 || is_update k.0) (is_evict k.0) (write-served k.0 k.2)) [
            | inr evict ↦ inr (or_right (updates_memory x) (evicts x) (ap (λ o. is_some_and o is_evict) k.1 ∙ evict))
            | inl either ↦ elim (or_cases (is_granted_write k.0) (is_update k.0) either) [
              | inl granted ↦ inl (or_right (is_some_and (read_kind x) is_line_read) (is_some_and (write_kind x) is_granted_write) (ap (λ o. is_some_and o is_granted_write) k.1 ∙ granted))
              | inr update ↦ inr (or_left (updates_memory x) (evicts x) (ap (λ o. is_some_and o is_update) k.1 ∙ update))
            ]
          ]
    ]

-- what is outstanding and moves on by the steps that serve lines, or that acknowledge
abbrev pub is_served : Header → Trace → Transaction → Bool
is_served h past x = is_outstanding h past x && (is_complete past x.port x.chan x.id || updates_memory x || evicts x || is_granted h past x)

module _ (h : Header) (past : Trace) (a : IsAccepted h past) (none : some_issued past (is_served h past) ≡ false) (none_waits : some_issued past (waits h past) ≡ false) where
  unserved : (x : Transaction) → IsIssued past x → is_served h past x ≡ true → ⊥
  unserved x i s = let some = some_issued-found past (is_served h past) x.place x i.there s in cc

  -- no line transaction is outstanding
  pub none-on-line : (x : Transaction) → IsIssued past x → is_line x ≡ true → is_outstanding h past x ≡ false
  none-on-line x i line =
      false_from_ne_true (is_outstanding h past x) (λ out.
      let done = is_complete past x.port x.chan x.id in
      elim (line-served x line) [
        | inr update ↦
            let served : (is_complete past x.port x.chan x.id || updates_memory x || evicts x) ≡ true =
            elim (or_cases (updates_memory x) (evicts x) update) [
              | inl u ↦ or_left (done || updates_memory x) (evicts x) (or_right done (updates_memory x) u)
              | inr e ↦ or_right (done || updates_memory x) (evicts x) e
            ] in
            unserved x i (and_from _ _ out (or_left (done || updates_memory x || evicts x) (is_granted h past x) served))
        | inl takes ↦ elim (cases_Bool (has_grant past x.port x.chan x.id)) [
          | inl had ↦
              let own = outstanding_is h past x i out in
              let granted = granted_is h past x.addr x (granted_had h past a x.port x.chan x.id x own had) refl in
              unserved x i (and_from _ _ out (or_right (done || updates_memory x || evicts x) (is_granted h past x) granted))
          | inr f ↦
              let waits_now : waits h past x ≡ true = and_from _ _ (and_from _ _ takes out) (ap not f) in
              let some = some_issued-found past (waits h past) x.place x i.there waits_now in cc
        ]
      ])

  -- and none is complete
  pub none-complete : (x : Transaction) → IsIssued past x → is_outstanding h past x ≡ true → is_complete past x.port x.chan x.id ≡ false
  none-complete x i out =
      false_from_ne_true (is_complete past x.port x.chan x.id) (λ done.
      unserved x i (and_from _ _ out (or_left (is_complete past x.port x.chan x.id || updates_memory x || evicts x) (is_granted h past x)
      (or_left (is_complete past x.port x.chan x.id || updates_memory x) (evicts x) (or_left (is_complete past x.port x.chan x.id) (updates_memory x) done)))))

-- ---- the law -----------------------------------------------------------------------------------------

passing-port : (n : ℕ) (test : ℕ → Bool) → list_any test (ports_below n) ≡ true → (q : ℕ) × (test q ≡ true)
passing-port zero test t = cc
passing-port (suc n) test t =
    elim (or_cases (test n) (list_any test (ports_below n)) t) [ inl here ↦ (n, here) | inr later ↦ passing-port n test later ]

module _ (plan : Plan) (past : Trace) (right : IsRight plan) (s : AreSteps plan past) (answers : (q : ℕ) → q < plan.header.ports → answered past q ≡ None)
    (none : some_issued past (is_served plan.header past) ≡ false) (none_waits : some_issued past (waits plan.header past) ≡ false) where
  -- what is outstanding moves on, or what it waits for
  outstanding-moves : (x : Transaction) → IsIssued past x → is_outstanding plan.header past x ≡ true → OrderStep plan past
  outstanding-moves x i out =
      let h = plan.header in
      let a = steps-accepted plan past s in
      let undone = none-complete h past a none none_waits x i out in
      elim (transaction-sort h past x a i) [
        | inl line ↦ let off = none-on-line h past a none none_waits x i line in let bad : false ≡ true = sym off ∙ out in cc
        | inr (inr dvm) ↦ dvm-has-a-step plan past x right s answers i dvm out undone
        | inr (inl half) ↦
            let named = outstanding-named h past x.port x.chan x.id x (outstanding_is h past x i out) in
            let incomplete : is_completed past x ≡ false = sym (complete_by_name past x.port x.chan x.id x named) ∙ undone in
            let moves = barrier-moves plan past x s i half incomplete (λ y j line port. none-on-line h past a none none_waits y j line) in (
              x.port,
              ltb-true x.port h.ports (issuer-low h past x a i),
              enabled-by-more (10 ∷ []) (10 ∷ 11 ∷ 12 ∷ 13 ∷ 14 ∷ []) plan past x.port refl moves,
            )
      ]

  -- A port is enabled by one of the steps 10 to 14 where a transaction is outstanding or a DVM Complete is owed.
  pub order-moves : (some_issued past (is_outstanding plan.header past) || list_any (owes_completion past) (ports_below plan.header.ports)) ≡ true → OrderStep plan past
  order-moves some =
      let h = plan.header in
      elim (cases_Bool (some_issued past (is_outstanding h past))) [
        | inl t ↦ let x = some_issued-is past (is_outstanding h past) t in outstanding-moves x.0 x.1 x.2
        | inr f ↦
            let owed : list_any (owes_completion past) (ports_below h.ports) ≡ true = rw f at some in
            let p = passing-port h.ports (owes_completion past) owed in
            owed-has-a-step plan past p.0 s f p.1
      ]
