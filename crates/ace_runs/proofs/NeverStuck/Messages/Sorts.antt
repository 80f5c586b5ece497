-- What a transaction of an accepted trace is: a line transaction, a half of a barrier, a part of a DVM message or a DVM Complete.
use Rattle.std.proofs.Common.{◌≡◌, ◌⊎◌, ℕ, Bool, true, false, ◌||◌, length, Option, Some, None, refl, inl, inr}
use Rattle.ace_codes.specs.declared.kind.ArKind.{ArKind}
use Rattle.ace_codes.specs.declared.kind.ArKind.TheVariants as read
use Rattle.ace_codes.specs.declared.kind.AwKind.{AwKind}
use Rattle.ace_codes.specs.declared.kind.AwKind.TheVariants as write
use Rattle.ace_codes.specs.Reads.{ar_kind_of}
use Rattle.ace_codes.specs.Writes.{aw_kind_of}
use Rattle.ace_event.specs.declared.event.Event.{Event}
use Rattle.ace_event.specs.declared.event.Event.TheVariants.{Ar, Aw}
use Rattle.ace_event.specs.declared.header.Header.{Header}
use Rattle.ace_model.specs.declared.transactions.Transaction.{Transaction}
use Rattle.ace_model.specs.Accepted.{IsAccepted}
use Rattle.ace_model.specs.AddressRules.{k2, may_issue_read, may_issue_write}
use Rattle.ace_model.specs.Barriers.{is_barrier_half}
use Rattle.ace_model.specs.Kinds.{is_dvm_complete, is_dvm_message, is_line_read, is_line_write, is_read_barrier, is_write_barrier}
use Rattle.ace_model.specs.Messages.{is_dvm_completion, is_message_part}
use Rattle.ace_model.specs.Trace.{Trace, is_none_or, is_some_and}
use Rattle.ace_model.specs.Transactions.{is_line, issued}
use Rattle.ace_model.proofs.Rules.Keeps.{accepted_keeps}
use Rattle.ace_model.proofs.Trace.Growth.{IsIssued}
use Rattle.ace_model.proofs.Trace.IssuedTransactions.{issued-by-rule}

abbrev is_sorted : Transaction → Bool
is_sorted x = is_line x || is_barrier_half x || is_message_part x || is_dvm_completion x

read-sorted : (o : Option ArKind) (may : ArKind → Bool) → is_some_and o may ≡ true
    → ((is_some_and o is_line_read || false) || (is_some_and o is_read_barrier || false) || is_some_and o is_dvm_message || is_some_and o is_dvm_complete) ≡ true
read-sorted None may k = cc
read-sorted (Some read.Barrier) may k = refl
read-sorted (Some read.DvmMessage) may k = refl
read-sorted (Some read.DvmComplete) may k = refl
read-sorted (Some read.ReadNoSnoop) may k = refl
read-sorted (Some kind) may k = refl

write-sorted : (o : Option AwKind) (may : AwKind → Bool) → is_some_and o may ≡ true → (is_some_and o is_line_write || is_some_and o is_write_barrier || false || false) ≡ true
write-sorted None may k = cc
write-sorted (Some write.Barrier) may k = refl
write-sorted (Some kind) may k = refl

sorted-by-rule : (h : Header) (past : Trace) (e : Event) (n : ℕ) → k2 h past e ≡ true → is_none_or (issued n e) is_sorted ≡ true
sorted-by-rule h past (Ar p i addr code dom bar lock) n k = read-sorted (ar_kind_of code dom bar) (may_issue_read h p) k
sorted-by-rule h past (Aw p i addr code dom bar) n k = write-sorted (aw_kind_of code dom bar) (may_issue_write h p) k
sorted-by-rule h past e n k = refl

sorted : (h : Header) (past : Trace) (x : Transaction) → IsAccepted h past → IsIssued past x → is_sorted x ≡ true
sorted h past x a i = issued-by-rule is_sorted h (λ past e a. sorted-by-rule h past e (length past) (accepted_keeps h past e a).rule_2) past x a i

pub transaction-sort : (h : Header) (past : Trace) (x : Transaction) → IsAccepted h past → IsIssued past x
    → (is_line x ≡ true) ⊎ (is_barrier_half x ≡ true) ⊎ ((is_message_part x || is_dvm_completion x) ≡ true)
transaction-sort h past x a i = by (is_line x) (is_barrier_half x) (is_message_part x) (is_dvm_completion x) (sorted h past x a i)
  where
    by : (a b c d : Bool) → (a || b || c || d) ≡ true → (a ≡ true) ⊎ (b ≡ true) ⊎ ((c || d) ≡ true)
    by true b c d t = inl refl
    by false true c d t = inr (inl refl)
    by false false c d t = inr (inr t)
