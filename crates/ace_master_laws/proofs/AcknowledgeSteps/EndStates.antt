-- There is a state in which a transaction may end that is to be acknowledged.
use Rattle.std.proofs.Common.{◌≡◌, ℕ, Bool, true, false, ◌&&◌, ◌||◌, if◌then◌else◌, length, Option, Some, None, is_some, inl, inr, refl, sym, ap, ◌∙◌}
use Rattle.std.proofs.lemmas.Bool.{and_from, or_cases, or_left, or_right}
use Rattle.ace_codes.specs.declared.kind.ArKind.{ArKind}
use Rattle.ace_codes.specs.declared.kind.ArKind.TheVariants as read
use Rattle.ace_codes.specs.declared.kind.AwKind.{AwKind}
use Rattle.ace_codes.specs.declared.kind.AwKind.TheVariants as write
use Rattle.ace_codes.specs.declared.state.LineState.{LineState}
use Rattle.ace_codes.specs.declared.state.LineState.TheVariants.{I, UD}
use Rattle.ace_codes.specs.Reads.{ar_kind_of}
use Rattle.ace_codes.specs.Writes.{aw_kind_of}
use Rattle.ace_event.specs.declared.event.Channel.{Channel}
use Rattle.ace_event.specs.declared.event.Channel.TheVariants.{Read, Write}
use Rattle.ace_event.specs.declared.event.Event.{Event}
use Rattle.ace_event.specs.declared.event.Event.TheVariants.{Ar, Aw}
use Rattle.ace_event.specs.declared.header.Header.{Header}
use Rattle.ace_tables.specs.EndStates.{end_states_of_read, end_states_of_write}
use Rattle.ace_tables.specs.States.{is_dirty, same_state}
use Rattle.ace_model.specs.declared.transactions.Transaction.{Transaction}
use Rattle.ace_model.specs.Accepted.{IsAccepted}
use Rattle.ace_model.specs.AddressRules.{k2, may_issue_read, may_issue_write}
use Rattle.ace_model.specs.Exclusives.{has_failed}
use Rattle.ace_model.specs.Kinds.{is_line_read, is_line_write, is_update}
use Rattle.ace_model.specs.ReadRules.{held_of}
use Rattle.ace_model.specs.States.{state_of}
use Rattle.ace_model.specs.Trace.{Trace, implies, is_none_or, is_some_and}
use Rattle.ace_model.specs.Transactions.{first_resp, is_line, is_read, issued, read_kind, write_kind}
use Rattle.ace_model.proofs.General.Booleans.{each_flags, implies-at}
use Rattle.ace_model.proofs.General.Options.{is_some_and-is, some_is}
use Rattle.ace_model.proofs.Rules.Keeps.{accepted_keeps}
use Rattle.ace_model.proofs.Tables.Kinds.{is_dirty_update}
use Rattle.ace_model.proofs.Tables.States.{each_state, same_state-is}
use Rattle.ace_model.proofs.Values.UpdateHolds.{holds_line}
use Rattle.ace_runs.specs.MasterSteps.{end_of, is_told_dirty, is_told_shared}
use Rattle.ace_model.proofs.Trace.IssuedTransactions.{issued-by-rule}
use Rattle.ace_master_laws.specs.Orderly.{is_write_clean}
use Rattle.ace_master_laws.proofs.Acknowledges.Acknowledging.{on-line}
use Rattle.ace_master_laws.proofs.Acknowledges.Due.{IsDue}
use Rattle.ace_master_laws.proofs.AcknowledgeSteps.Held.{held-fits, may-hold-none, may_hold}
use Rattle.ace_master_laws.proofs.AcknowledgeSteps.Told.{may_be_told, may_say, told, told-bits}
use Rattle.ace_master_laws.proofs.Lines.EndChoices.{end-of-read, end-of-write, first_of}
use Rattle.ace_master_laws.proofs.Progress.Come.{no-read}

-- ---- the table ---------------------------------------------------------------------------------------

read-ends-some : (k : ArKind) (held : LineState) (shared pass failed : Bool)
    → implies (may_hold k held && may_be_told k shared pass) (is_some (first_of (end_states_of_read k held shared pass failed))) ≡ true
read-ends-some read.Barrier = each_state _ (each_flags _ refl) (each_flags _ refl) (each_flags _ refl) (each_flags _ refl) (each_flags _ refl)
read-ends-some k = each_state _ (each_flags _ refl) (each_flags _ refl) (each_flags _ refl) (each_flags _ refl) (each_flags _ refl)

-- a MakeUnique ends with the line alone and dirty
make-ends-dirty : (held : LineState) (shared pass failed : Bool)
    → implies (may_hold read.MakeUnique held && may_be_told read.MakeUnique shared pass)
    (is_some_and (first_of (end_states_of_read read.MakeUnique held shared pass failed)) (same_state UD)) ≡ true
make-ends-dirty = each_state _ (each_flags _ refl) (each_flags _ refl) (each_flags _ refl) (each_flags _ refl) (each_flags _ refl)

-- a WriteClean is of a dirty line
write-ends-some : (k : AwKind) (held : LineState) → implies (implies (is_write_clean k) (is_dirty held)) (is_some (first_of (end_states_of_write k held))) ≡ true
write-ends-some write.Barrier = each_state _ refl refl refl refl refl
write-ends-some k = each_state _ refl refl refl refl refl

-- ---- kinds -------------------------------------------------------------------------------------------

some-of : {A : Type 0} → (o : Option A) (test : A → Bool) → is_some_and o test ≡ true → is_some o ≡ true
some-of None test s = cc
some-of (Some v) test s = refl

known-by-rule : (h : Header) (past : Trace) (e : Event) (n : ℕ) → k2 h past e ≡ true → is_none_or (issued n e) (λ x. is_some (read_kind x) || is_some (write_kind x)) ≡ true
known-by-rule h past (Ar p i addr snoop dom bar lock) n k =
    or_left (is_some (ar_kind_of snoop dom bar)) false (some-of (ar_kind_of snoop dom bar) (may_issue_read h p) k)
known-by-rule h past (Aw p i addr snoop dom bar) n k = some-of (aw_kind_of snoop dom bar) (may_issue_write h p) k
known-by-rule h past e n k = refl

module _ (h : Header) (past : Trace) (p : ℕ) (a : IsAccepted h past) (x : Transaction) where
  known : (c : Channel) → IsDue h past p c x → (is_some (read_kind x) || is_some (write_kind x)) ≡ true
  known c d = issued-by-rule (λ x. is_some (read_kind x) || is_some (write_kind x)) h (λ past e a. known-by-rule h past e (length past) (accepted_keeps h past e a).rule_2) past x a d.there

  held-at : (c : Channel) → IsDue h past p c x → is_line x ≡ true → held_of h past x ≡ state_of h past p x.addr
  held-at c d line = ap (λ b. if b then state_of h past x.port x.addr else I) line ∙ ap (λ q. state_of h past q x.addr) d.port

  -- ---- a read ----------------------------------------------------------------------------------------

  module _ (d : IsDue h past p Read x) (k : ArKind) (is : read_kind x ≡ Some k) where
    holds-fit : may_hold k (held_of h past x) ≡ true
    holds-fit = by (is_line x) refl
      where
        by : (b : Bool) → is_line x ≡ b → may_hold k (held_of h past x) ≡ true
        by true line = ap (may_hold k) (held-at Read d line) ∙ held-fits h past a p x.id x.addr x k is (on-line x x.addr line refl) d.waits
        by false off = ap (may_hold k) (ap (λ b. if b then state_of h past x.port x.addr else I) off) ∙ may-hold-none k

    told-fits : may_be_told k (is_told_shared past x) (is_told_dirty past x) ≡ true
    told-fits =
        told-bits k (first_resp past x.port x.id)
        (ap (λ q. is_none_or (first_resp past q x.id) (may_say k)) d.port ∙ told h past a p x.id x k is d.waits)

    fits : (may_hold k (held_of h past x) && may_be_told k (is_told_shared past x) (is_told_dirty past x)) ≡ true
    fits = and_from _ _ holds-fit told-fits

    read-ends : (st : LineState) × (end_of h past x ≡ Some st)
    read-ends =
        some_is (end_of h past x)
        (ap is_some (end-of-read h past x k is)
        ∙ implies-at (may_hold k (held_of h past x) && may_be_told k (is_told_shared past x) (is_told_dirty past x)) _
        (read-ends-some k (held_of h past x) (is_told_shared past x) (is_told_dirty past x) (has_failed past x)) fits)

  pub make-ends : IsDue h past p Read x → read_kind x ≡ Some read.MakeUnique → end_of h past x ≡ Some UD
  make-ends d is =
      let k = read.MakeUnique in
      let found = implies-at (may_hold k (held_of h past x) && may_be_told k (is_told_shared past x) (is_told_dirty past x)) _
      (make-ends-dirty (held_of h past x) (is_told_shared past x) (is_told_dirty past x) (has_failed past x)) (fits d k is) in
      let st = is_some_and-is (first_of (end_states_of_read k (held_of h past x) (is_told_shared past x) (is_told_dirty past x) (has_failed past x))) (same_state UD) found in
      end-of-read h past x k is ∙ st.1 ∙ ap Some (sym (same_state-is UD st.0 st.2))

  -- ---- a write ---------------------------------------------------------------------------------------

  write-ends : IsDue h past p Write x → (k : AwKind) → write_kind x ≡ Some k → (st : LineState) × (end_of h past x ≡ Some st)
  write-ends d k is =
      some_is (end_of h past x)
      (ap is_some (end-of-write h past x k (no-read x k is) is) ∙ implies-at (implies (is_write_clean k) (is_dirty (held_of h past x))) _ (write-ends-some k (held_of h past x)) (dirty k is))
    where
      dirty : (j : AwKind) → write_kind x ≡ Some j → implies (is_write_clean j) (is_dirty (held_of h past x)) ≡ true
      dirty write.WriteClean kind =
          let line : is_line x ≡ true = or_right (is_some_and (read_kind x) is_line_read) _ (ap (λ v. is_some_and v is_line_write) kind) in
          ap is_dirty (held-at Write d line)
          ∙ (holds_line h past a p x.id x.addr x d.waits (on-line x x.addr line refl) (ap (λ v. is_some_and v is_update) kind)).dirty (ap (λ v. is_some_and v is_dirty_update) kind)
      dirty j kind = refl

  -- ---- either ----------------------------------------------------------------------------------------

  -- The transaction has one.
  pub ends-some : (c : Channel) → IsDue h past p c x → (st : LineState) × (end_of h past x ≡ Some st)
  ends-some Read d =
      elim (or_cases (is_some (read_kind x)) (is_some (write_kind x)) (known Read d)) [
        | inl r ↦ let k = some_is (read_kind x) r in read-ends d k.0 k.1
        | inr w ↦
            let none : write_kind x ≡ None = ap (λ c. if is_read c then None else aw_kind_of x.snoop x.dom x.bar) d.chan in
            let bad : false ≡ true = ap is_some (sym none) ∙ w in cc
      ]
  ends-some Write d =
      elim (or_cases (is_some (read_kind x)) (is_some (write_kind x)) (known Write d)) [
        | inr w ↦ let k = some_is (write_kind x) w in write-ends d k.0 k.1
        | inl r ↦
            let none : read_kind x ≡ None = ap (λ c. if is_read c then ar_kind_of x.snoop x.dom x.bar else None) d.chan in
            let bad : false ≡ true = ap is_some (sym none) ∙ r in cc
      ]
