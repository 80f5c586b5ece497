-- A half of a barrier is a read or a write of the kind of barriers, and of no other kind.
use Rattle.std.proofs.Common.{◌≡◌, ◌⊎◌, Bool, true, false, ◌||◌, Option, Some, None, inl, inr, refl, sym, ap, ◌∙◌}
use Rattle.std.proofs.lemmas.Bool.{cases_Bool, false_from_ne_true}
use Rattle.ace_codes.specs.declared.kind.ArKind.{ArKind}
use Rattle.ace_codes.specs.declared.kind.ArKind.TheVariants as read
use Rattle.ace_codes.specs.declared.kind.AwKind.{AwKind}
use Rattle.ace_codes.specs.declared.kind.AwKind.TheVariants as write
use Rattle.ace_event.specs.declared.event.Channel.TheVariants.{Read}
use Rattle.ace_model.specs.declared.transactions.Transaction.{Transaction}
use Rattle.ace_model.specs.Barriers.{is_barrier_half}
use Rattle.ace_model.specs.Kinds.{has_write_data, is_dvm_complete, is_dvm_message, is_line_read, is_line_write, is_read_barrier, is_write_barrier}
use Rattle.ace_model.specs.Messages.{is_dvm_completion, is_message_part}
use Rattle.ace_model.specs.Trace.{is_some_and}
use Rattle.ace_model.specs.Transactions.{is_line, is_read, read_kind, write_kind}
use Rattle.ace_runs.specs.Acts.{is_act_read, is_act_transaction, is_act_write}

-- ---- the kind ----------------------------------------------------------------------------------------

read-is : (o : Option ArKind) → (is_some_and o is_read_barrier || false) ≡ true → o ≡ Some read.Barrier
read-is None b = cc
read-is (Some read.Barrier) b = refl
read-is (Some k) b = cc

write-is : (o : Option AwKind) → is_some_and o is_write_barrier ≡ true → o ≡ Some write.Barrier
write-is None b = cc
write-is (Some write.Barrier) b = refl
write-is (Some k) b = cc

abbrev pub BarrierKind : Transaction → Type 0
BarrierKind x =
    ((read_kind x ≡ Some read.Barrier) × (write_kind x ≡ None)) ⊎ ((read_kind x ≡ None) × (write_kind x ≡ Some write.Barrier))

pub half-kind : (x : Transaction) → is_barrier_half x ≡ true → BarrierKind x
half-kind x b =
    elim (cases_Bool (is_read x.chan)) [
      | inl t ↦ let none : write_kind x ≡ None = rw t refl in inl (read-is (read_kind x) (rw none at b), none)
      | inr f ↦ let none : read_kind x ≡ None = rw f refl in inr (none, write-is (write_kind x) (rw none at b))
    ]

-- what tells only of the kind
by-kind : (reads : Option ArKind → Bool) (x : Transaction) (b : Bool) → BarrierKind x → reads (Some read.Barrier) ≡ b → reads None ≡ b → reads (read_kind x) ≡ b
by-kind reads x b (inl k) one two = ap reads k.0 ∙ one
by-kind reads x b (inr k) one two = ap reads k.0 ∙ two

by-kinds : (test : Option ArKind → Option AwKind → Bool) (x : Transaction) (b : Bool) → BarrierKind x → test (Some read.Barrier) None ≡ b → test None (Some write.Barrier) ≡ b
    → test (read_kind x) (write_kind x) ≡ b
by-kinds test x b (inl k) one two = ap (λ o. test o (write_kind x)) k.0 ∙ ap (test (Some read.Barrier)) k.1 ∙ one
by-kinds test x b (inr k) one two = ap (λ o. test o (write_kind x)) k.0 ∙ ap (test None) k.1 ∙ two

-- ---- what it is and isn't ----------------------------------------------------------------------------

-- it is an act
pub half-acts : (x : Transaction) → is_barrier_half x ≡ true → is_act_transaction x ≡ true
half-acts x b = by-kinds (λ r w. is_some_and r is_act_read || is_some_and w is_act_write) x true (half-kind x b) refl refl

-- no DVM Complete, no line transaction, no part of a DVM message
pub half-no-completion : (x : Transaction) → is_barrier_half x ≡ true → is_dvm_completion x ≡ false
half-no-completion x b = by-kind (λ r. is_some_and r is_dvm_complete) x false (half-kind x b) refl refl

pub half-no-line : (x : Transaction) → is_barrier_half x ≡ true → is_line x ≡ false
half-no-line x b = by-kinds (λ r w. is_some_and r is_line_read || is_some_and w is_line_write) x false (half-kind x b) refl refl

pub half-no-message : (x : Transaction) → is_barrier_half x ≡ true → is_message_part x ≡ false
half-no-message x b = by-kind (λ r. is_some_and r is_dvm_message) x false (half-kind x b) refl refl

-- so these are no barriers
pub line-no-half : (x : Transaction) → is_line x ≡ true → is_barrier_half x ≡ false
line-no-half x line = false_from_ne_true (is_barrier_half x) (λ b. let bad : false ≡ true = sym (half-no-line x b) ∙ line in cc)

pub dvm-no-half : (x : Transaction) → (is_message_part x || is_dvm_completion x) ≡ true → is_barrier_half x ≡ false
dvm-no-half x d =
    false_from_ne_true (is_barrier_half x) (λ b.
    let message = half-no-message x b in
    let completion = half-no-completion x b in
    let bad : (false || false) ≡ true = rw (message, completion) at d in cc)

-- the one on the read channel is a read, the one on the write channel a write without data
pub half-reads : (x : Transaction) → x.chan ≡ Read → is_barrier_half x ≡ true → is_some_and (read_kind x) is_read_barrier ≡ true
half-reads x chan b =
    elim (half-kind x b) [
      | inl k ↦ ap (λ o. is_some_and o is_read_barrier) k.0
      | inr k ↦ let none : write_kind x ≡ None = rw chan refl in let bad : None ≡ Some write.Barrier = sym none ∙ k.1 in cc
    ]

pub half-dataless : (x : Transaction) → is_barrier_half x ≡ true → is_some_and (write_kind x) has_write_data ≡ false
half-dataless x b = by-kinds (λ r w. is_some_and w has_write_data) x false (half-kind x b) refl refl
