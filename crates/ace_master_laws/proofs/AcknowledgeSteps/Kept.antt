-- The acknowledge that is due, with the state in which its transaction ends, breaks no rule.
use Rattle.std.proofs.Common.{◌≡◌, ℕ, Bool, true, false, not, ◌&&◌, nat_lt, Option, Some, None, is_some, refl, sym, ap, ◌∙◌, if◌then◌else◌}
use Rattle.std.proofs.lemmas.Bool.{and_from, and_parts}
use Rattle.ace_codes.specs.declared.kind.ArKind.{ArKind}
use Rattle.ace_codes.specs.declared.kind.AwKind.{AwKind}
use Rattle.ace_codes.specs.declared.state.LineState.{LineState}
use Rattle.ace_codes.specs.Reads.{ar_kind_of}
use Rattle.ace_event.specs.declared.event.Channel.{Channel}
use Rattle.ace_event.specs.declared.event.Channel.TheVariants.{Read, Write}
use Rattle.ace_event.specs.declared.event.Event.TheVariants.{Rk, Wk}
use Rattle.ace_event.specs.declared.header.Header.{Header}
use Rattle.ace_tables.specs.EndStates.{end_states_of_read, end_states_of_write}
use Rattle.ace_tables.specs.States.{is_among}
use Rattle.ace_model.specs.declared.transactions.Transaction.{Transaction}
use Rattle.ace_model.specs.AddressRules.{k1}
use Rattle.ace_model.specs.Exclusives.{has_failed}
use Rattle.ace_model.specs.Kinds.{is_make_unique}
use Rattle.ace_model.specs.ReadRules.{ends_well, held_of, is_end, k22, k23}
use Rattle.ace_model.specs.States.{has_store}
use Rattle.ace_model.specs.Trace.{Trace, implies, is_none_or, is_some_and}
use Rattle.ace_model.specs.Transactions.{is_ace, read_kind, write_kind, is_read}
use Rattle.ace_model.specs.WriteRules.{ends_write_well, k27, k28}
use Rattle.ace_model.proofs.Outstanding.Issued.{find-some}
use Rattle.ace_model.proofs.Trace.Outstanding.{acknowledged_is}
use Rattle.ace_runs.specs.Bursts.{is_kept}
use Rattle.ace_runs.specs.MasterSteps.{end_of, end_order, is_told_dirty, is_told_shared}
use Rattle.ace_runs.proofs.Accepting.{three-kept}
use Rattle.ace_master_laws.proofs.Acknowledges.Due.{IsDue, ack}
use Rattle.ace_master_laws.proofs.Lines.EndChoices.{read-end, write-end}

rk-kept : (h : Header) (past : Trace) (p : ℕ) (st : LineState) → nat_lt p h.ports ≡ true → is_ace h p ≡ true → k22 h past (Rk p st) ≡ true → k23 h past (Rk p st) ≡ true
    → is_kept h past (Rk p st) ≡ true
unfolding is_kept
rk-kept h past p st low ace waits ends =
    let one : k1 h past (Rk p st) ≡ true = and_from _ _ low ace in
    three-kept (k1 h past (Rk p st)) (k22 h past (Rk p st)) (k23 h past (Rk p st)) 1 22 23 one waits ends

wk-kept : (h : Header) (past : Trace) (p : ℕ) (st : LineState) → nat_lt p h.ports ≡ true → is_ace h p ≡ true → k27 h past (Wk p st) ≡ true → k28 h past (Wk p st) ≡ true
    → is_kept h past (Wk p st) ≡ true
unfolding is_kept
wk-kept h past p st low ace waits ends =
    let one : k1 h past (Wk p st) ≡ true = and_from _ _ low ace in
    three-kept (k1 h past (Wk p st)) (k27 h past (Wk p st)) (k28 h past (Wk p st)) 1 27 28 one waits ends

-- the transaction is a MakeUnique that lacks its store
abbrev pub lacks_store : Header → Trace → Transaction → Bool
lacks_store h past x = is_some_and (read_kind x) is_make_unique && not (has_store h past x.port x.id)

module _ (h : Header) (past : Trace) (x : Transaction) (st : LineState) (end : end_of h past x ≡ Some st) where
  read-ends-well : lacks_store h past x ≡ false → ends_well h past st x ≡ true
  read-ends-well stored = by (read_kind x) refl
    where
      has : (m s : Bool) → (m && not s) ≡ false → implies m s ≡ true
      has true true f = refl
      has true false f = cc
      has false s f = refl

      by : (o : Option ArKind) → read_kind x ≡ o → is_none_or o (is_end h past x st) ≡ true
      by None is = refl
      by (Some k) is =
          let states = end_states_of_read k (held_of h past x) (is_told_shared past x) (is_told_dirty past x) (has_failed past x) in
          and_from _ _ (find-some (λ s. is_among s states) end_order st (read-end h past x st end k is)).1
          (has (is_make_unique k) (has_store h past x.port x.id) (ap (λ o. is_some_and o is_make_unique && not (has_store h past x.port x.id)) (sym is) ∙ stored))

  write-ends-well : read_kind x ≡ None → ends_write_well h past st x ≡ true
  write-ends-well none = by (write_kind x) refl
    where
      by : (o : Option AwKind) → write_kind x ≡ o → is_none_or o (λ k. is_among st (end_states_of_write k (held_of h past x))) ≡ true
      by None is = refl
      by (Some k) is = (find-some (λ s. is_among s (end_states_of_write k (held_of h past x))) end_order st (write-end h past x st end k none is)).1

  -- The acknowledge of a transaction that lacks no store.
  pub ack-kept : (p : ℕ) (c : Channel) → is_ace h p ≡ true → IsDue h past p c x → lacks_store h past x ≡ false → is_kept h past (ack c p st) ≡ true
  ack-kept p Read ace d stored =
      let n = acknowledged_is past p Read x d.next in
      rk-kept h past p st (and_parts (nat_lt p h.ports) _ ace).0 ace (ap is_some n.next) (ap (λ o. is_none_or o (ends_well h past st)) d.next ∙ read-ends-well stored)
  ack-kept p Write ace d stored =
      let n = acknowledged_is past p Write x d.next in
      let none : read_kind x ≡ None = ap (λ c. if is_read c then ar_kind_of x.snoop x.dom x.bar else None) d.chan in
      wk-kept h past p st (and_parts (nat_lt p h.ports) _ ace).0 ace (ap is_some n.next) (ap (λ o. is_none_or o (ends_write_well h past st)) d.next ∙ write-ends-well none)
